-- What is in front of a slot's own answer: no fault means in range; and the records of a batch, one by one: the first bad one decides.
-- Over any kind of slots, any number of them and any limit of records. Assumes nothing.
use mathlib.Core.Path.{◌≡◌, refl, sym, ap, ◌∙◌}
use mathlib.Core.Bool.{Bool, true, false, cond}
use mathlib.Core.List.{List, [], ◌∷◌}
use Prim.Native.Nat.{ℕ, suc, ◌+◌, ◌<◌}
use native.Mathlib.Nat.{add-zero}
use native.Mathlib.Omega.{arith}
use borrow.Author.Tests.{ltb-true, eqb-false}
use lib.Dec.{ltb, eqb}
use lib.ListN.{length, get_or, set, take}
use Rattle.refusals.specs.Numbers.{accepted, slot_number, bad_record}
use Rattle.bank.specs.Rules.{Reply, Result, Kind, every, fed, at, fault, batch}
use Rattle.bank.specs.declared.piece.Piece.{Piece}
use Rattle.bank.proofs.Cases.{either}

module _ {X : Type 0} (kind : Kind X) (n : ℕ) where
  -- no fault: every slot and the parameters handed in are in range, and there is such a slot
  pub no_fault_means : (xs : List X) (good : Bool) (k : ℕ) → fault kind n xs good k ≡ accepted → (every kind.good xs ≡ true) × (good ≡ true) × (k < n)
  unfolding fault
  no_fault_means xs good k z = split (every kind.good xs) good (ltb k n) refl refl refl
    where
      split : (a b q : Bool) → every kind.good xs ≡ a → good ≡ b → ltb k n ≡ q → (every kind.good xs ≡ true) × (good ≡ true) × (k < n)
      split true true true e f g = (e, f, ltb-true k n g)
      split true true false e f g = let w : slot_number ≡ accepted = rw (e, f, g) at z in absurd (omega arith)
      split true false q e f g = let w : bad_record ≡ accepted = rw (e, f) at z in absurd (omega arith)
      split false b q e f g = let w : bad_record ≡ accepted = rw e at z in absurd (omega arith)

  module _ (xs ys : List X) (i : ℕ) (p : Piece) (ps : List Piece) (d : List ℕ) where
    pub goes_on : ltb p.slot n ≡ true → eqb (fed kind (at kind ys p.slot) p d).answer.number accepted ≡ true
        → batch kind n xs ys i (p ∷ ps) d ≡ batch kind n xs (set ys p.slot (fed kind (at kind ys p.slot) p d).slot) (suc i) ps d
    unfolding batch
    goes_on e h = rw (e, h)

    pub stops : ltb p.slot n ≡ true → eqb (fed kind (at kind ys p.slot) p d).answer.number accepted ≡ false
        → batch kind n xs ys i (p ∷ ps) d ≡ record { answer = record { number = (fed kind (at kind ys p.slot) p d).answer.number; index = i; value = 0; bytes = [] }; slots = xs }
    unfolding batch
    stops e h = rw (e, h)

    pub stops_outside : ltb p.slot n ≡ false → batch kind n xs ys i (p ∷ ps) d ≡ record { answer = record { number = slot_number; index = i; value = 0; bytes = [] }; slots = xs }
    unfolding batch
    stops_outside e = rw e

    -- what holds of the records behind it, and of any refusal at it, holds
    pub by_first : (P : Result X → Type 0) → P (batch kind n xs (set ys p.slot (fed kind (at kind ys p.slot) p d).slot) (suc i) ps d)
        → ((m : ℕ) → P (record { answer = record { number = m; index = i; value = 0; bytes = [] }; slots = xs })) → P (batch kind n xs ys i (p ∷ ps) d)
    unfolding batch
    by_first P on stop =
        either P (ltb p.slot n) _ _
        (λ e. either P (eqb (fed kind (at kind ys p.slot) p d).answer.number accepted) _ _ (λ h. on) (λ h. stop (fed kind (at kind ys p.slot) p d).answer.number))
        (λ e. stop slot_number)

    -- an accepted batch: its first record was accepted
    pub first_accepted : (batch kind n xs ys i (p ∷ ps) d).answer.number ≡ accepted
        → (ltb p.slot n ≡ true) × (eqb (fed kind (at kind ys p.slot) p d).answer.number accepted ≡ true)
    first_accepted z = split (ltb p.slot n) (eqb (fed kind (at kind ys p.slot) p d).answer.number accepted) refl refl
      where
        split : (q r : Bool) → ltb p.slot n ≡ q → eqb (fed kind (at kind ys p.slot) p d).answer.number accepted ≡ r
            → (ltb p.slot n ≡ true) × (eqb (fed kind (at kind ys p.slot) p d).answer.number accepted ≡ true)
        split true true e h = (e, h)
        split true false e h = absurd (eqb-false (fed kind (at kind ys p.slot) p d).answer.number accepted h (ap (λ (b : Result X). b.answer.number) (sym (stops e h)) ∙ z))
        split false r e h = let w : slot_number ≡ accepted = ap (λ (b : Result X). b.answer.number) (sym (stops_outside e)) ∙ z in absurd (omega arith)

  -- what a record is refused with over the slots ys: 7, then what its slot answers
  unfoldable pub record_refusal : List X → Piece → List ℕ → ℕ
  record_refusal ys p d = cond (ltb p.slot n) (fed kind (at kind ys p.slot) p d).answer.number slot_number

  -- of records of which the first has the index i, a refused batch names the index i + j of a record whose forerunners are accepted, as a batch
  -- of their own, and whose own refusal, over the slots that they leave, is the batch's number
  pub record Decided (xs ys : List X) (i : ℕ) (ps : List Piece) (d : List ℕ) : Type 0 where
    pub place : ℕ
    pub there : place < length ps
    pub index : (batch kind n xs ys i ps d).answer.index ≡ i + place
    pub forerunners : (batch kind n xs ys i (take place ps) d).answer.number ≡ accepted
    pub number : (q : Piece) → (batch kind n xs ys i ps d).answer.number ≡ record_refusal (batch kind n xs ys i (take place ps) d).slots (get_or ps place q) d

  here : (xs ys : List X) (i : ℕ) (p : Piece) (ps : List Piece) (d : List ℕ) (m : ℕ) → (batch kind n xs ys i (p ∷ ps) d).answer.index ≡ i
      → (batch kind n xs ys i (p ∷ ps) d).answer.number ≡ m → m ≡ record_refusal ys p d → Decided xs ys i (p ∷ ps) d
  unfolding batch
  here xs ys i p ps d m e f g =
      record { place = 0; there = omega arith; index = e ∙ sym (add-zero i); forerunners = refl; number = λ q. f ∙ g }

  behind : (xs ys zs : List X) (i : ℕ) (p : Piece) (ps : List Piece) (d : List ℕ) → batch kind n xs ys i (p ∷ ps) d ≡ batch kind n xs zs (suc i) ps d
      → ((qs : List Piece) → batch kind n xs ys i (p ∷ qs) d ≡ batch kind n xs zs (suc i) qs d) → Decided xs zs (suc i) ps d → Decided xs ys i (p ∷ ps) d
  behind xs ys zs i p ps d e on rest =
      let k : ℕ = rest.place in
      let shorter = on (take k ps) in
      record {
        place = suc k;
        there = omega (arith, rest.there);
        index = ap (λ (b : Result X). b.answer.index) e ∙ rest.index ∙ step i k;
        forerunners = ap (λ (b : Result X). b.answer.number) shorter ∙ rest.forerunners;
        number = λ q. ap (λ (b : Result X). b.answer.number) e ∙ rest.number q ∙ ap (λ (b : Result X). record_refusal b.slots (get_or ps k q) d) (sym shorter);
      }
    where
      step : (i k : ℕ) → suc i + k ≡ i + suc k
      step i k = omega arith

  pub first_bad_decides : (xs ys : List X) (i : ℕ) (ps : List Piece) (d : List ℕ) → ((batch kind n xs ys i ps d).answer.number ≡ accepted → ⊥) → Decided xs ys i ps d
  first_bad_decides xs ys i [] d h = absurd (h (unfold batch in refl))
  first_bad_decides xs ys i (p ∷ ps) d h = split (first_bad_decides xs zs (suc i) ps d) (ltb p.slot n) (eqb fed_first.answer.number accepted) refl refl
    where
      fed_first : Reply X
      fed_first = fed kind (at kind ys p.slot) p d

      zs : List X
      zs = set ys p.slot fed_first.slot

      split : (((batch kind n xs zs (suc i) ps d).answer.number ≡ accepted → ⊥) → Decided xs zs (suc i) ps d)
          → (q r : Bool) → ltb p.slot n ≡ q → eqb fed_first.answer.number accepted ≡ r → Decided xs ys i (p ∷ ps) d
      split rest true true e f =
          let on = goes_on xs ys i p ps d e f in
          behind xs ys zs i p ps d on (λ qs. goes_on xs ys i p qs d e f) (rest (λ z. h (ap (λ (b : Result X). b.answer.number) on ∙ z)))
      split rest true false e f =
          let s = stops xs ys i p ps d e f in
          here xs ys i p ps d fed_first.answer.number (ap (λ (b : Result X). b.answer.index) s) (ap (λ (b : Result X). b.answer.number) s) (unfold record_refusal in rw e)
      split rest false r e f =
          let s = stops_outside xs ys i p ps d e in
          here xs ys i p ps d slot_number (ap (λ (b : Result X). b.answer.index) s) (ap (λ (b : Result X). b.answer.number) s) (unfold record_refusal in rw e)
