-- The bad job that decides is the first one: it stands at the index answered, the number is its own refusal, and every job in front of it is good.
-- Assumes nothing.
use mathlib.Core.Path.{◌≡◌, refl, sym, ap, ◌∙◌}
use mathlib.Core.Bool.{Bool, true, false}
use mathlib.Core.List.{List, [], ◌∷◌}
use Prim.Native.Nat.{ℕ, zero, suc, ◌+◌, ◌<◌, ◌≤◌}
use native.Mathlib.Nat.{add-zero, zero-add, not-suc-le-zero, le_of_suc-le-suc}
use native.Mathlib.Omega.{arith}
use borrow.Author.Tests.{eqb-true, eqb-false}
use lib.Dec.{eqb}
use lib.ListN.{length, get_or, take}
use Rattle.refusals.specs.Numbers.{accepted}
use Rattle.many.specs.Job.{job_refusal}
use Rattle.many.specs.Batch.{first_bad, jobs_run}
use Rattle.many.specs.declared.placed.HashManyJob.{HashManyJob}
use Rattle.many.specs.Answers.{FirstBad}
use Rattle.many.specs.Answers.{JobsAnswer}
use Rattle.many.proofs.Batches.{first_here, first_later, batch_settled}

-- of jobs over n bytes of data, the first bad one stands at k
pub record First (n : ℕ) (js : List HashManyJob) (k number : ℕ) : Type 0 where
  pub inside : k < length js
  pub bad : (z : HashManyJob) → job_refusal n (get_or js k z) ≡ number
  pub before : (i : ℕ) (z : HashManyJob) → i < k → job_refusal n (get_or js i z) ≡ accepted

module _ (n : ℕ) where
  abbrev Found : ℕ → List HashManyJob → Type 0
  Found i js = (k : ℕ) × (((first_bad n i js).index ≡ i + k) × First n js k (first_bad n i js).number)

  in_front : (j : HashManyJob) (js : List HashManyJob) {k : ℕ} → job_refusal n j ≡ accepted → ((i : ℕ) (z : HashManyJob) → i < k → job_refusal n (get_or js i z) ≡ accepted)
      → (i : ℕ) (z : HashManyJob) → i < suc k → job_refusal n (get_or (j ∷ js) i z) ≡ accepted
  in_front j js e h zero z g = e
  in_front j js e h (suc i) z g = h i z (le_of_suc-le-suc g)

  found_here : (i : ℕ) (j : HashManyJob) (js : List HashManyJob) → (job_refusal n j ≡ accepted → ⊥) → Found i (j ∷ js)
  found_here i j js bad =
      rw (first_here n i j js refl bad) (0, (sym (add-zero i), record { inside = omega arith; bad = λ z. refl; before = λ k z h. absurd (not-suc-le-zero h) }))

  found_later : (i : ℕ) (j : HashManyJob) (js : List HashManyJob) → job_refusal n j ≡ accepted → Found (suc i) js → Found i (j ∷ js)
  found_later i j js e f =
      let g = f.1.1 in
      rw (first_later n i j js e) (suc f.0, (f.1.0 ∙ omega arith, record { inside = omega (arith, g.inside); bad = g.bad; before = in_front j js e g.before }))

  found : (i : ℕ) (js : List HashManyJob) → ((first_bad n i js).number ≡ accepted → ⊥) → Found i js
  found i [] h = absurd (h (unfold first_bad in refl))
  found i (j ∷ js) h = split (eqb (job_refusal n j) accepted) refl (λ g. found (suc i) js g)
    where
      split : (b : Bool) → eqb (job_refusal n j) accepted ≡ b → (((first_bad n (suc i) js).number ≡ accepted → ⊥) → Found (suc i) js) → Found i (j ∷ js)
      split true q rest =
          let e = eqb-true (job_refusal n j) accepted q in
          found_later i j js e (rest (λ g. h (ap (λ (b : FirstBad). b.number) (first_later n i j js e) ∙ g)))
      split false q rest = found_here i j js (eqb-false (job_refusal n j) accepted q)

-- a batch within the limit that was refused: its index is the first bad job's, which is one of the used ones
pub first_bad_decides : (most : ℕ) (jobs : List HashManyJob) (used : ℕ) (d : List ℕ) → used ≤ most → ((jobs_run most jobs used d).number ≡ accepted → ⊥)
    → First (length d) (take used jobs) (jobs_run most jobs used d).index (jobs_run most jobs used d).number
first_bad_decides most jobs used d few h =
    let s = batch_settled most jobs used d few refl in
    let f = found (length d) 0 (take used jobs) (λ e. h (ap (λ (a : JobsAnswer). a.number) (sym s) ∙ e)) in
    rw (← s, f.1.0, zero-add f.0) f.1.1
