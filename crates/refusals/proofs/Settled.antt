-- A Result is settled by document 01's answer: no two refusals have one number, and none has that of an acceptance.
-- Assumes nothing.
use mathlib.Core.Path.{◌≡◌, refl, sym, ap, ◌∙◌}
use mathlib.Core.List.{List, [], ◌∷◌}
use Prim.Native.Nat.{ℕ}
use native.Mathlib.Omega.{arith}
use Rattle.std.specs.Prelude.{Result, Ok, Err, get_or}
use Rattle.refusals.specs.Numbers.{accepted}
use Rattle.refusals.specs.Answers.{number_of, number_in, value_in, batch_number_in, index_in}
use Rattle.refusals.specs.declared.refusal.Refusal.{Refusal}
use Rattle.refusals.specs.declared.refusal.Refusal.TheVariants.{DigestLength, KeyLength, SaltLength, PersonalLength, InnerLength, Total, Slot, Closed, Piece, Batch, Output, Unfinished, Open, Record}
use Rattle.refusals.specs.declared.refusal.BatchRefusal.{BatchRefusal}

-- the refusals, each at the place of its number: an acceptance has the place 0
abbrev in_order : List Refusal
in_order = Record ∷ DigestLength ∷ KeyLength ∷ SaltLength ∷ PersonalLength ∷ InnerLength ∷ Total ∷ Slot ∷ Closed ∷ Piece ∷ Batch ∷ Output ∷ Unfinished ∷ Open ∷ Record ∷ []

abbrev at_number : ℕ → Refusal
at_number n = get_or in_order n Record

at_its_number : (e : Refusal) → at_number (number_of e) ≡ e
at_its_number DigestLength = refl
at_its_number KeyLength = refl
at_its_number SaltLength = refl
at_its_number PersonalLength = refl
at_its_number InnerLength = refl
at_its_number Total = refl
at_its_number Slot = refl
at_its_number Closed = refl
at_its_number Piece = refl
at_its_number Batch = refl
at_its_number Output = refl
at_its_number Unfinished = refl
at_its_number Open = refl
at_its_number Record = refl

pub same_refusal : (e f : Refusal) → number_of e ≡ number_of f → e ≡ f
same_refusal e f n = sym (at_its_number e) ∙ ap at_number n ∙ at_its_number f

pub never_accepted : (e : Refusal) → number_of e ≡ accepted → ⊥
never_accepted DigestLength n = omega arith
never_accepted KeyLength n = omega arith
never_accepted SaltLength n = omega arith
never_accepted PersonalLength n = omega arith
never_accepted InnerLength n = omega arith
never_accepted Total n = omega arith
never_accepted Slot n = omega arith
never_accepted Closed n = omega arith
never_accepted Piece n = omega arith
never_accepted Batch n = omega arith
never_accepted Output n = omega arith
never_accepted Unfinished n = omega arith
never_accepted Open n = omega arith
never_accepted Record n = omega arith

-- z is what stands in place of a value
module _ {A : Type 0} (z : A) where
  pub settled : {r q : Result A Refusal} → number_in r ≡ number_in q → value_in z r ≡ value_in z q → r ≡ q
  settled {r = Ok x} {q = Ok y} n v = ap Ok v
  settled {r = Ok x} {q = Err f} n v = absurd (never_accepted f (sym n))
  settled {r = Err e} {q = Ok y} n v = absurd (never_accepted e n)
  settled {r = Err e} {q = Err f} n v = ap Err (same_refusal e f n)

  -- of a batch: by the index too
  pub batch_settled : {r q : Result A BatchRefusal} → batch_number_in r ≡ batch_number_in q → index_in r ≡ index_in q → value_in z r ≡ value_in z q → r ≡ q
  batch_settled {r = Ok x} {q = Ok y} n i v = ap Ok v
  batch_settled {r = Ok x} {q = Err f} n i v = absurd (never_accepted f.refusal (sym n))
  batch_settled {r = Err e} {q = Ok y} n i v = absurd (never_accepted e.refusal n)
  batch_settled {r = Err e} {q = Err f} n i v = ap Err (λ j. record { refusal = same_refusal e.refusal f.refusal n j; index = i j })
