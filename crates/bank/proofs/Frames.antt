-- What a call leaves as it was: everything where it is refused, and every slot that it does not name.
-- Over any kind of slots, any number of them and any limit of records. Assumes nothing.
use mathlib.Core.Path.{◌≡◌, refl, sym, ap, ◌∙◌}
use mathlib.Core.Bool.{Bool, true, false, ◌||◌, true≢false}
use mathlib.Core.List.{List, [], ◌∷◌}
use Prim.Native.Nat.{ℕ, suc}
use borrow.Author.Tests.{eqb-true, eqb-false}
use lib.Dec.{leb, eqb}
use lib.ListN.{set, take}
use lib.Seq.{set-get_or, get_or-set_other}
use Rattle.refusals.specs.Numbers.{accepted}
use Rattle.refusals.proofs.Picks.{All, tested_keeps}
use Rattle.bank.specs.Rules.{Ask, opening, update, digest, digest_to, count, close, Call, on, update_many, Reply, Result, Kind}
use Rattle.bank.specs.Rules.{open_tests, every, good_ask, done, reply, fed, at, fault, batch, step, after}
use Rattle.bank.specs.Apart.{among, names, Spared}
use Rattle.bank.specs.declared.piece.Piece.{Piece}
use Rattle.bank.proofs.Cases.{either}
use Rattle.bank.proofs.Records.{by_first}

-- a digest or a count
abbrev pub Asks : Ask → Type 0
Asks (opening p) = ⊥
Asks (update d) = ⊥
Asks digest = Unit {0}
Asks (digest_to out) = Unit {0}
Asks count = Unit {0}
Asks close = ⊥

module _ {X : Type 0} (kind : Kind X) where
  -- an open slot that refuses an update is as it was
  abbrev pub Steady : Type 0
  Steady = (x : X) (d : List ℕ) → kind.is_open x ≡ true → (kind.taker.number x d ≡ accepted → ⊥) → kind.taker.next x d ≡ x

  -- a refused reply leaves the slot
  abbrev Left : X → Reply X → Type 0
  Left x r = (r.answer.number ≡ accepted → ⊥) → r.slot ≡ x

  done_left : Steady → (x : X) (ask : Ask) → All (open_tests (kind.is_open x) ask) → Left x (done kind x ask)
  done_left steady x (opening p) all = λ h. absurd (h refl)
  done_left steady x (update d) all = λ h. steady x d all.0 h
  done_left steady x digest all = λ h. refl
  done_left steady x (digest_to out) all = λ h. refl
  done_left steady x count all = λ h. refl
  done_left steady x close all = λ h. absurd (h refl)

  reply_left : Steady → (x : X) (ask : Ask) → Left x (reply kind x ask)
  unfolding reply
  reply_left steady x ask = tested_keeps (Left x) (open_tests (kind.is_open x) ask) _ _ (λ all. done_left steady x ask all) (λ n h. refl)

  -- and so does a digest or a count, whatever it answers
  done_asked : (x : X) (ask : Ask) → Asks ask → (done kind x ask).slot ≡ x
  done_asked x digest asks = refl
  done_asked x (digest_to out) asks = refl
  done_asked x count asks = refl
  done_asked x (opening p) asks = elim asks [ ]
  done_asked x (update d) asks = elim asks [ ]
  done_asked x close asks = elim asks [ ]

  reply_asked : (x : X) (ask : Ask) → Asks ask → (reply kind x ask).slot ≡ x
  unfolding reply
  reply_asked x ask asks = tested_keeps (λ (r : Reply X). r.slot ≡ x) (open_tests (kind.is_open x) ask) _ _ (λ all. done_asked x ask asks) (λ n. refl)

  module _ (n : ℕ) where
    -- what a result keeps of the slots: all where refused; all; the slot k
    abbrev AllLeft : List X → Result X → Type 0
    AllLeft xs r = (r.answer.number ≡ accepted → ⊥) → r.slots ≡ xs

    abbrev Same : List X → Result X → Type 0
    Same xs r = r.slots ≡ xs

    abbrev AtLeft : ℕ → X → Result X → Type 0
    AtLeft k x r = at kind r.slots k ≡ x

    batch_left : (xs ys : List X) (i : ℕ) (ps : List Piece) (d : List ℕ) → AllLeft xs (batch kind n xs ys i ps d)
    batch_left xs ys i [] d = unfold batch in λ h. absurd (h refl)
    batch_left xs ys i (p ∷ ps) d =
        by_first kind n xs ys i p ps d (AllLeft xs) (batch_left xs (set ys p.slot (fed kind (at kind ys p.slot) p d).slot) (suc i) ps d) (λ m z. refl)

    -- a record for another slot, and those behind it
    not_first : (p : Piece) (ps : List Piece) (k : ℕ) → among k (p ∷ ps) ≡ false → (eqb p.slot k ≡ false) × (among k ps ≡ false)
    unfolding among
    not_first p ps k e = split (eqb p.slot k) e refl
      where
        split : (q : Bool) → q || among k ps ≡ false → eqb p.slot k ≡ q → (eqb p.slot k ≡ false) × (among k ps ≡ false)
        split true f g = absurd (true≢false f)
        split false f g = (g, f)

    pub other_slot : (xs : List X) (j k : ℕ) (v : X) → eqb j k ≡ false → at kind (set xs j v) k ≡ at kind xs k
    other_slot xs j k v e = get_or-set_other xs j k v kind.closed (λ h. eqb-false j k e (sym h))

    batch_other : (xs ys : List X) (i : ℕ) (ps : List Piece) (d : List ℕ) (k : ℕ) → among k ps ≡ false → at kind xs k ≡ at kind ys k
        → AtLeft k (at kind ys k) (batch kind n xs ys i ps d)
    batch_other xs ys i [] d k e f = unfold batch in refl
    batch_other xs ys i (p ∷ ps) d k e f =
        let r : Reply X = fed kind (at kind ys p.slot) p d in
        let o = other_slot ys p.slot k r.slot (not_first p ps k e).0 in
        by_first kind n xs ys i p ps d (AtLeft k (at kind ys k))
        (batch_other xs (set ys p.slot r.slot) (suc i) ps d k (not_first p ps k e).1 (f ∙ sym o) ∙ o) (λ m. f)

    module _ (most : ℕ) where
      -- a refused call leaves every slot
      pub refused_leaves : Steady → (xs : List X) (c : Call) → AllLeft xs (step kind n most xs c)
      unfolding step
      refused_leaves steady xs (on k ask) =
          either (AllLeft xs) (eqb (fault kind n xs (good_ask ask) k) accepted) _ _
          (λ e h. ap (set xs k) (reply_left steady (at kind xs k) ask h) ∙ set-get_or xs k kind.closed) (λ e h. refl)
      refused_leaves steady xs (update_many ps used d) =
          either (AllLeft xs) (every kind.good xs) _ _ (λ e. either (AllLeft xs) (leb used most) _ _ (λ h. batch_left xs xs 0 (take used ps) d) (λ h z. refl)) (λ e z. refl)

      -- a digest and a count leave every slot, whatever they answer
      pub asking_leaves : (xs : List X) (k : ℕ) (ask : Ask) → Asks ask → (step kind n most xs (on k ask)).slots ≡ xs
      unfolding step
      asking_leaves xs k ask asks =
          either (Same xs) (eqb (fault kind n xs (good_ask ask) k) accepted) _ _
          (λ e. ap (set xs k) (reply_asked (at kind xs k) ask asks) ∙ set-get_or xs k kind.closed) (λ e. refl)

      -- any call leaves a slot that it does not name
      pub other_kept : (xs : List X) (c : Call) (k : ℕ) → names k c ≡ false → AtLeft k (at kind xs k) (step kind n most xs c)
      unfolding step
      other_kept xs (on j ask) k e =
          either (AtLeft k (at kind xs k)) (eqb (fault kind n xs (good_ask ask) j) accepted) _ _ (λ h. other_slot xs j k (reply kind (at kind xs j) ask).slot e) (λ h. refl)
      other_kept xs (update_many ps used d) k e =
          either (AtLeft k (at kind xs k)) (every kind.good xs) _ _
          (λ g. either (AtLeft k (at kind xs k)) (leb used most) _ _ (λ h. batch_other xs xs 0 (take used ps) d k e refl) (λ h. refl)) (λ g. refl)

      spared_step : Steady → (xs : List X) (c : Call) (k : ℕ) → ((step kind n most xs c).answer.number ≡ accepted → names k c ≡ false)
          → at kind (step kind n most xs c).slots k ≡ at kind xs k
      spared_step steady xs c k h = split (eqb (step kind n most xs c).answer.number accepted) refl
        where
          split : (q : Bool) → eqb (step kind n most xs c).answer.number accepted ≡ q → at kind (step kind n most xs c).slots k ≡ at kind xs k
          split true e = other_kept xs c k (h (eqb-true (step kind n most xs c).answer.number accepted e))
          split false e =
              ap (λ (ys : List X). at kind ys k) (refused_leaves steady xs c (eqb-false (step kind n most xs c).answer.number accepted e))

      -- a slot that no accepted call names keeps what it holds, through a whole history
      pub unnamed_kept : Steady → (xs : List X) (cs : List Call) (k : ℕ) → Spared kind n most k xs cs → at kind (after kind n most xs cs) k ≡ at kind xs k
      unfolding after
      unnamed_kept steady xs [] k h = refl
      unnamed_kept steady xs (c ∷ cs) k h = unnamed_kept steady (step kind n most xs c).slots cs k h.1 ∙ spared_step steady xs c k h.0
