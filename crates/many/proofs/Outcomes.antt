-- The outcome of a batch by place: what an accepted one made of each job, and which jobs every batch leaves as they were. Over any list and any limit.
-- Assumes nothing.
use mathlib.Core.Path.{◌≡◌, refl, sym, ap, subst, ◌∙◌}
use mathlib.Core.Bool.{Bool, true, false}
use mathlib.Core.List.{List}
use Prim.Native.Nat.{ℕ, ◌<◌, ◌≤◌, min}
use native.Mathlib.Omega.{arith}
use borrow.Author.Tests.{leb-true, leb-false, eqb-true, eqb-false}
use lib.Dec.{leb, eqb}
use lib.ListN.{length, get_or, take, length-take}
use lib.Seq.{get_or-take}
use Rattle.refusals.specs.Numbers.{accepted, batch_long}
use Rattle.many_work.proofs.Runs.{run_finishes, run_keeps_range}
use Rattle.many.specs.Job.{input_of, run_over, job_refusal}
use Rattle.many.specs.Batch.{mapped, first_bad, jobs_run}
use Rattle.many.specs.declared.placed.HashManyJob.{HashManyJob}
use Rattle.many.specs.Answers.{FirstBad}
use Rattle.many.specs.Answers.{JobsAnswer}
use Rattle.many.proofs.Mapped.{at_place, behind, unmoved, length_mapped, mapped_again}
use Rattle.many.proofs.Jobs.{accepted_range, finished_accepted, over_finished}
use Rattle.many.proofs.Batches.{used_accepted, none_bad, batch_refused, batch_bad, batch_run}

pub over_finishes : (d : List ℕ) (j : HashManyJob) → (run_over d j).work.finished ≡ true
over_finishes d j = run_finishes (input_of d j) j.work

-- what an accepted batch means: no more are used than may be, each of them is good, and each was run at its place
pub record Ran (most : ℕ) (jobs : List HashManyJob) (used : ℕ) (d : List ℕ) (a : JobsAnswer) : Type 0 where
  pub few : used ≤ most
  pub good : (first_bad (length d) 0 (take used jobs)).number ≡ accepted
  pub is : a ≡ record { number = accepted; index = 0; jobs = mapped (run_over d) used jobs }

module _ (most : ℕ) (jobs : List HashManyJob) (used : ℕ) (d : List ℕ) where
  abbrev found : FirstBad
  found = first_bad (length d) 0 (take used jobs)

  -- what holds of the jobs run, and of the same jobs with any refusal, holds of a batch's answer
  by_outcome : (P : JobsAnswer → Type 0) → (used ≤ most → found.number ≡ accepted → P (record { number = accepted; index = 0; jobs = mapped (run_over d) used jobs }))
      → ((refusal i : ℕ) → (refusal ≡ accepted → ⊥) → P (record { number = refusal; index = i; jobs = jobs })) → P (jobs_run most jobs used d)
  by_outcome P taken refused = split (leb used most) (eqb found.number accepted) refl refl
    where
      split : (p q : Bool) → leb used most ≡ p → eqb found.number accepted ≡ q → P (jobs_run most jobs used d)
      split false q e f = subst P (batch_refused most jobs used d (leb-false used most e)) (refused batch_long 0 (λ z. omega arith))
      split true true e f =
          let few = leb-true used most e in
          let good = eqb-true found.number accepted f in
          subst P (batch_run most jobs used d few refl good refl) (taken few good)
      split true false e f =
          let bad = eqb-false found.number accepted f in
          subst P (batch_bad most jobs used d (leb-true used most e) refl bad) (refused found.number found.index bad)

  -- a refused batch leaves all jobs as they were
  pub refused_unchanged : ((jobs_run most jobs used d).number ≡ accepted → ⊥) → (jobs_run most jobs used d).jobs ≡ jobs
  refused_unchanged = by_outcome (λ a. (a.number ≡ accepted → ⊥) → a.jobs ≡ jobs) (λ few good h. absurd (h refl)) (λ n i bad h. refl)

  -- a job behind the used ones is as it was
  pub behind_unchanged : (i : ℕ) (z : HashManyJob) → used ≤ i → get_or (jobs_run most jobs used d).jobs i z ≡ get_or jobs i z
  behind_unchanged i z h = by_outcome (λ a. get_or a.jobs i z ≡ get_or jobs i z) (λ few good. behind (run_over d) used jobs i z h) (λ n k bad. refl)

  -- and so is a finished one, at any place
  pub finished_unchanged : (i : ℕ) (z : HashManyJob) → (get_or jobs i z).work.finished ≡ true → get_or (jobs_run most jobs used d).jobs i z ≡ get_or jobs i z
  finished_unchanged i z h =
      by_outcome (λ a. get_or a.jobs i z ≡ get_or jobs i z) (λ few good. unmoved (run_over d) used jobs i z (sym (over_finished d (get_or jobs i z) h))) (λ n k bad. refl)

  pub accepted_means : (jobs_run most jobs used d).number ≡ accepted → Ran most jobs used d (jobs_run most jobs used d)
  accepted_means = by_outcome (λ a. a.number ≡ accepted → Ran most jobs used d a) (λ few good e. record { few = few; good = good; is = refl }) (λ n i bad e. absurd (bad e))

  -- where each used job is good, the batch is accepted
  pub accepted_when : used ≤ most → ((i : ℕ) (z : HashManyJob) → i < used → i < length jobs → job_refusal (length d) (get_or jobs i z) ≡ accepted)
      → jobs_run most jobs used d ≡ record { number = accepted; index = 0; jobs = mapped (run_over d) used jobs }
  accepted_when few each =
      let none = none_bad (length d) 0 (take used jobs) (λ k z h. good_front k z (simp length-take at h)) in
      sym (batch_run most jobs used d few refl (ap (λ (b : FirstBad). b.number) none) refl)
    where
      good_front : (k : ℕ) (z : HashManyJob) → k < min used (length jobs) → job_refusal (length d) (get_or (take used jobs) k z) ≡ accepted
      good_front k z h = rw (get_or-take used jobs k z (omega arith)) (each k z (omega arith) (omega arith))

  module _ (ok : (jobs_run most jobs used d).number ≡ accepted) where
    -- what stands at a place was made of the job at that place and of the data, and of nothing else
    pub own_place : (i : ℕ) (z : HashManyJob) → i < used → i < length jobs → get_or (jobs_run most jobs used d).jobs i z ≡ run_over d (get_or jobs i z)
    own_place i z h g = rw (accepted_means ok).is (at_place (run_over d) used jobs i z h g)

    -- and the job was good
    pub own_accepted : (i : ℕ) (z : HashManyJob) → i < used → i < length jobs → job_refusal (length d) (get_or jobs i z) ≡ accepted
    own_accepted i z h g = used_accepted (length d) jobs used (accepted_means ok).good i z h g

-- a job that was run stays as it is in whatever batch comes later, accepted or not
pub stays : (most : ℕ) (jobs : List HashManyJob) (used : ℕ) (d : List ℕ) → (jobs_run most jobs used d).number ≡ accepted → (i : ℕ) (z : HashManyJob) → i < used → i < length jobs
    → (most' used' : ℕ) (d' : List ℕ) → get_or (jobs_run most' (jobs_run most jobs used d).jobs used' d').jobs i z ≡ get_or (jobs_run most jobs used d).jobs i z
stays most jobs used d ok i z h g most' used' d' =
    finished_unchanged most' (jobs_run most jobs used d).jobs used' d' i z
    (ap (λ (j : HashManyJob). j.work.finished) (own_place most jobs used d ok i z h g) ∙ over_finishes d (get_or jobs i z))

-- running twice has no effect: the jobs of an accepted batch are accepted again, over any data, and stay as they are
module _ (most : ℕ) (jobs : List HashManyJob) (used : ℕ) (d : List ℕ) (ok : (jobs_run most jobs used d).number ≡ accepted) (e : List ℕ) where
  still_good : (i : ℕ) (z : HashManyJob) → i < used → i < length (mapped (run_over d) used jobs) → job_refusal (length e) (get_or (mapped (run_over d) used jobs) i z) ≡ accepted
  still_good i z h g =
      let low : i < length jobs = rw length_mapped at g in
      let j = get_or jobs i z in
      rw (at_place (run_over d) used jobs i z h low)
      (finished_accepted (length e) (run_over d j) (run_keeps_range (input_of d j) j.work j.length ∙ accepted_range (length d) j (own_accepted most jobs used d ok i z h low)) (over_finishes d j))

  pub twice : jobs_run most (jobs_run most jobs used d).jobs used e ≡ record { number = accepted; index = 0; jobs = (jobs_run most jobs used d).jobs }
  twice =
      let r = accepted_means most jobs used d ok in
      let same = mapped_again (run_over d) (run_over e) (λ j. sym (over_finished e (run_over d j) (over_finishes d j))) used jobs in
      rw r.is
      (accepted_when most (mapped (run_over d) used jobs) used e r.few still_good ∙ ap (λ (js : List HashManyJob). record { number = accepted; index = 0; jobs = js }) same)
