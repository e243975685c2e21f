-- The history of a member's state: to any updates, digests and counts, in any order and any cuts, it answers as the row of its parameters and
-- the bytes accepted would. Assumes nothing.
use mathlib.Core.Path.{◌≡◌, refl, sym, ap, ◌∙◌}
use mathlib.Core.Bool.{Bool, true, false, cond}
use mathlib.Core.List.{List, [], ◌∷◌, ◌++◌, foldl-append}
use Prim.Native.Nat.{ℕ, ◌+◌, ◌≤◌}
use native.Mathlib.Omega.{arith}
use borrow.Author.Tests.{leb-true}
use lib.Dec.{leb}
use lib.ListN.{length, length-append}
use Rattle.laws_states.specs.Buffer.{joined}
use Rattle.refusals.specs.Numbers.{accepted}
use Rattle.members.specs.Row.{Call, answers, digested, counted, Row, row}
use Rattle.members.specs.Keeper.{pushed, state_taker}
use Rattle.members.specs.Member.{Member, limit, reached, row_taker}
use Rattle.members.proofs.Alike.{Alike, alike_answers}
use Rattle.members.proofs.Laws.{Laws, Begun}
use Rattle.members.proofs.Cuts.{joined_more, ahead_within, digest_reached, count_reached, update_reached}

module _ {P S L : Type 0} (m : Member P S L) (laws : Laws m) where
  open m use {keeper}

  -- a state that took the bytes of a row, in some cuts
  pub record Took (s : S) (r : Row P) : Type 0 where
    pub begun : Begun m r.params
    pub pieces : List (List ℕ)
    pub is : s ≡ reached m r.params pieces
    pub made : joined pieces ≡ r.bytes
    pub within : m.ahead r.params + length (joined pieces) ≤ limit m

  -- one piece more, where it passes the row's test
  module _ (p : P) (ps : List (List ℕ)) (a : List ℕ) where
    abbrev fits : Bool
    fits = leb (m.ahead p + length (joined ps) + length a) (limit m)

    abbrev more : Bool → List (List ℕ)
    more b = cond b (ps ++ (a ∷ [])) ps

    reached_more : (b : Bool) → cond b (pushed keeper (reached m p ps) a) (reached m p ps) ≡ reached m p (more b)
    reached_more true = sym (foldl-append (pushed keeper) (m.fresh p) ps (a ∷ []))
    reached_more false = refl

    bytes_more : (b : Bool) → joined (more b) ≡ cond b (joined ps ++ a) (joined ps)
    bytes_more true = joined_more ps a
    bytes_more false = refl

    within_more : m.ahead p + length (joined ps) ≤ limit m → (b : Bool) → fits ≡ b → m.ahead p + length (joined (more b)) ≤ limit m
    within_more within true e =
        let n = ap length (joined_more ps a) ∙ length-append (joined ps) a in
        omega (arith, leb-true (m.ahead p + length (joined ps) + length a) (limit m) e)
    within_more within false e = within

  module _ (s : S) (r : Row P) (e : Took s r) where
    abbrev p : P
    p = r.params

    abbrev ps : List (List ℕ)
    ps = e.pieces

    same_number : (a : List ℕ) → (state_taker keeper).number s a ≡ (row_taker m).number r a
    same_number a =
        ap (λ (t : S). (state_taker keeper).number t a) e.is ∙ update_reached m laws p e.begun ps e.within (λ t. accepted) (λ n. n) a
        ∙ ap (λ (d : List ℕ). (row_taker m).number (row p d) a) e.made

    took_next : (a : List ℕ) → Took ((state_taker keeper).next s a) ((row_taker m).next r a)
    took_next a = record {
      begun = e.begun;
      pieces = more p ps a (fits p ps a);
      is = ap (λ (t : S). (state_taker keeper).next t a) e.is
          ∙ update_reached m laws p e.begun ps e.within (λ t. t) (λ n. reached m p ps) a
          ∙ reached_more p ps a (fits p ps a);
      made = bytes_more p ps a (fits p ps a) ∙ ap (λ (d : List ℕ). ((row_taker m).next (row p d) a).bytes) e.made;
      within = within_more p ps a e.within _ refl;
    }

    same_digest : (state_taker keeper).digested s ≡ (row_taker m).digested r
    same_digest =
        ap (state_taker keeper).digested e.is ∙ digest_reached m laws p e.begun ps e.within (digested accepted) (λ n. digested n [])
        ∙ ap (λ (d : List ℕ). digested accepted (m.digest p d)) e.made

    same_count : (state_taker keeper).counted s ≡ (row_taker m).counted r
    same_count =
        ap (state_taker keeper).counted e.is ∙ count_reached m laws p e.begun ps e.within (counted accepted) (λ n. counted n 0)
        ∙ ap (λ (d : List ℕ). counted accepted (length d)) e.made

  pub stays_alike : Alike (state_taker keeper) (row_taker m) Took
  stays_alike = record {
    number = λ s r a e. same_number s r e a;
    next = λ s r a e. took_next s r e a;
    digested = λ s r e. same_digest s r e;
    counted = λ s r e. same_count s r e;
  }

  pub took_nothing : (p : P) → Begun m p → Took (m.fresh p) (row p [])
  unfolding joined
  took_nothing p begun = record { begun = begun; pieces = []; is = refl; made = refl; within = omega (arith, ahead_within m laws p begun) }

  -- whatever a fresh state is asked, it answers as the row of no bytes would
  pub history : (p : P) → Begun m p → (cs : List (Call (List ℕ))) → answers (state_taker keeper) (m.fresh p) cs ≡ answers (row_taker m) (row p []) cs
  history p begun cs = alike_answers (state_taker keeper) (row_taker m) Took stays_alike cs (m.fresh p) (row p []) (took_nothing p begun)
