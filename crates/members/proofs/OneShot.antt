-- The hash of a whole message is what a state answers that took it, with a key or without; and code may go straight or through a state.
-- Assumes nothing.
use mathlib.Core.Path.{◌≡◌, refl, sym, ap, ◌∙◌}
use mathlib.Core.Bool.{Bool, true, false, cond}
use mathlib.Core.List.{List, [], ◌∷◌, ◌++◌}
use Prim.Native.Nat.{ℕ, ◌+◌, ◌≤◌}
use native.Mathlib.Omega.{arith}
use borrow.Author.Tests.{le-leb, leb-true}
use lib.Dec.{leb}
use lib.ListN.{length}
use Rattle.refusals.specs.Numbers.{accepted, total_over}
use Rattle.members.specs.Keeper.{pushed, finalized, state_taker}
use Rattle.members.specs.Member.{Member, limit, hashed}
use Rattle.members.proofs.Laws.{Laws, Begun}
use Rattle.members.proofs.Pieces.{updated_pushed}
use Rattle.members.proofs.Cuts.{joined_one, total_fresh, range_fresh, digest_reached}

module _ {P S L : Type 0} (m : Member P S L) (laws : Laws m) (p : P) (begun : Begun m p) (a : List ℕ) where
  open m use {keeper}

  abbrev all : ℕ
  all = m.ahead p + length a

  module _ {A : Type 0} (ok : List ℕ → A) (bad : ℕ → A) where
    module _ (within : all ≤ limit m) where
      pub hashed_within : hashed m ok bad p a ≡ ok (m.digest p a)
      hashed_within = rw (begun.good, le-leb all (limit m) within)

      pub finalized_within : finalized keeper ok bad (pushed keeper (m.fresh p) a) ≡ ok (m.digest p a)
      finalized_within =
          digest_reached m laws p begun (a ∷ []) (rw (joined_one a) within) ok bad ∙ ap (λ (d : List ℕ). ok (m.digest p d)) (joined_one a)

      pub one_shot_is_incremental : hashed m ok bad p a ≡ finalized keeper ok bad ((state_taker keeper).next (m.fresh p) a)
      one_shot_is_incremental =
          let taken = updated_pushed keeper laws.keeper (λ t. t) (λ n. m.fresh p) (m.fresh p) (range_fresh m laws p begun) a (rw (total_fresh m laws p begun) within) in
          hashed_within ∙ sym (ap (finalized keeper ok bad) taken ∙ finalized_within)

    -- straight, where no key block stands in front
    pub hashed_straight : {r : A} → m.front p ≡ [] → length a ≤ limit m → r ≡ ok (keeper.close (m.fresh p) (keeper.core (m.fresh p)).at 0 a)
        → r ≡ hashed m ok bad p a
    hashed_straight none few e =
        let z : m.ahead p ≡ 0 = sym begun.front_is ∙ ap length none in
        let closed = (λ i. keeper.close (m.fresh p) (keeper.core (m.fresh p)).at 0 (sym none i ++ a)) ∙ begun.digest_is a in
        e ∙ ap ok closed ∙ sym (hashed_within (omega arith))

    -- through a state: a refusal of the update is that of the hash
    module _ {n : ℕ} (e : n ≡ (state_taker keeper).number (m.fresh p) a) where
      number_is : n ≡ cond (leb all (limit m)) accepted total_over
      number_is = e ∙ rw (range_fresh m laws p begun, total_fresh m laws p begun)

      pub hashed_past : {r : A} → (n ≡ accepted → ⊥) → r ≡ bad total_over → r ≡ hashed m ok bad p a
      hashed_past {r} f g = split (leb all (limit m)) refl
        where
          split : (b : Bool) → leb all (limit m) ≡ b → r ≡ hashed m ok bad p a
          split true h = absurd (f (number_is ∙ rw h))
          split false h = rw (begun.good, h) g

      pub hashed_through : {r : A} → n ≡ accepted → r ≡ finalized keeper ok bad ((state_taker keeper).next (m.fresh p) a) → r ≡ hashed m ok bad p a
      hashed_through {r} f g = split (leb all (limit m)) refl
        where
          split : (b : Bool) → leb all (limit m) ≡ b → r ≡ hashed m ok bad p a
          split true h = g ∙ sym (one_shot_is_incremental (leb-true all (limit m) h))
          split false h = let z : total_over ≡ accepted = sym (number_is ∙ rw h) ∙ f in absurd (omega arith)
