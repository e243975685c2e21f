-- The laws of batches: the first bad job turn by turn, what its number says of the jobs, and each answer case by case.
-- Assumes nothing.
use mathlib.Core.Path.{◌≡◌, refl, sym, ap, ◌∙◌}
use mathlib.Core.List.{List, [], ◌∷◌, ◌++◌, map}
use Prim.Native.Nat.{ℕ, zero, suc, ◌+◌, ◌<◌, ◌≤◌}
use native.Mathlib.Nat.{not-suc-le-zero, le_of_suc-le-suc}
use native.Mathlib.Numerals.{add-one}
use native.Mathlib.Omega.{arith}
use Rattle.std.proofs.lemmas.Bool.Decides.{nat_tests}
use borrow.Author.Tests.{le-leb, lt-leb, eq-eqb, ne_eqb}
use lib.ListN.{length, get_or, take, drop, set, length-take}
use lib.Seq.{drop-cons, get_or-take}
use Rattle.std.specs.Prelude.{Result, Ok, Err}
use Rattle.std.specs.Result.{MatchResult, IsErrAnd}
use Rattle.std.proofs.lemmas.Result.{err_from_is_err_and}
use Rattle.std.proofs.Math.ListN.{drop_of_length-le}
use Rattle.refusals.specs.Numbers.{accepted, batch_long}
use Rattle.refusals.specs.Answers.{number_of, number_in}
use Rattle.refusals.specs.declared.refusal.Refusal.{Refusal}
use Rattle.refusals.proofs.Settled.{never_accepted}
use Rattle.refusals.specs.declared.refusal.BatchRefusal.{BatchRefusal}
use Rattle.many.specs.Job.{run_over, job_refusal}
use Rattle.many.specs.Batch.{mapped, first_bad, settled, jobs_run}
use Rattle.many.specs.declared.placed.HashManyJob.{HashManyJob}
use Rattle.many.specs.Answers.{FirstBad, as_jobs_answer}
use Rattle.many.proofs.Mapped.{behind, one_more}

module _ (n : ℕ) where
  pub first_here : (i : ℕ) (j : HashManyJob) (js : List HashManyJob) {r : ℕ} → r ≡ job_refusal n j → (r ≡ accepted → ⊥) → first_bad n i (j ∷ js) ≡ record { number = r; index = i }
  unfolding first_bad
  first_here i j js {r} e h = rw (← e, ne_eqb r accepted h)

  pub first_later : (i : ℕ) (j : HashManyJob) (js : List HashManyJob) → job_refusal n j ≡ accepted → first_bad n i (j ∷ js) ≡ first_bad n (suc i) js
  unfolding first_bad
  first_later i j js e = rw (eq-eqb (job_refusal n j) accepted e)

  -- a turn of the loop over the jobs: a bad one is the first, and a good one is passed
  module _ (jobs : List HashManyJob) (i : ℕ) (z : HashManyJob) (there : i < length jobs) where
    pub turn_bad : (e : Refusal) → number_of e ≡ job_refusal n (get_or jobs i z) → first_bad n i (drop i jobs) ≡ record { number = number_of e; index = i }
    turn_bad e h = ap (first_bad n i) (drop-cons jobs i z there) ∙ first_here i (get_or jobs i z) (drop (suc i) jobs) h (never_accepted e)

    pub turn_good : accepted ≡ job_refusal n (get_or jobs i z) → first_bad n i (drop i jobs) ≡ first_bad n (i + 1) (drop (i + 1) jobs)
    turn_good h = rw add-one (ap (first_bad n i) (drop-cons jobs i z there) ∙ first_later i (get_or jobs i z) (drop (suc i) jobs) (sym h))

  pub none_left : (jobs : List HashManyJob) (i : ℕ) → length jobs ≤ i → first_bad n i (drop i jobs) ≡ record { number = accepted; index = 0 }
  unfolding first_bad
  none_left jobs i h = ap (first_bad n i) (drop_of_length-le jobs h)

  head_accepted : (i : ℕ) (j : HashManyJob) (js : List HashManyJob) → (first_bad n i (j ∷ js)).number ≡ accepted → job_refusal n j ≡ accepted
  unfolding first_bad
  head_accepted i j js e = grind (arith, nat_tests)

  -- where none is bad, each is accepted
  pub each_accepted : (i : ℕ) (js : List HashManyJob) → (first_bad n i js).number ≡ accepted → (k : ℕ) (z : HashManyJob) → k < length js → job_refusal n (get_or js k z) ≡ accepted
  each_accepted i [] e k z h = absurd (not-suc-le-zero h)
  each_accepted i (j ∷ js) e zero z h = head_accepted i j js e
  each_accepted i (j ∷ js) e (suc k) z h =
      each_accepted (suc i) js (ap (λ (a : FirstBad). a.number) (sym (first_later i j js (head_accepted i j js e))) ∙ e) k z (le_of_suc-le-suc h)

  -- and where each is accepted, none is bad
  pub none_bad : (i : ℕ) (js : List HashManyJob) → ((k : ℕ) (z : HashManyJob) → k < length js → job_refusal n (get_or js k z) ≡ accepted) → first_bad n i js ≡ record { number = accepted; index = 0 }
  unfolding first_bad
  none_bad i [] h = refl
  none_bad i (j ∷ js) h = first_later i j js (h 0 j (omega arith)) ∙ none_bad (suc i) js (λ k z g. h (suc k) z (omega arith))

  pub first_accepted : (i : ℕ) (js : List HashManyJob) → (first_bad n i js).number ≡ accepted → first_bad n i js ≡ record { number = accepted; index = 0 }
  first_accepted i js e = none_bad i js (each_accepted i js e)

-- the answer of a check, with the index beside a refusal
abbrev pub Told : Result (Unit {0}) Refusal → Result (Unit {0}) BatchRefusal → ℕ → Type 0
Told r m i = MatchResult r (λ x. m ≡ Ok x) (λ e. IsErrAnd m (λ q. q ≡ record { refusal = e; index = i }))

pub told_good : (r : Result (Unit {0}) Refusal) (m : Result (Unit {0}) BatchRefusal) (i : ℕ) → Told r m i → {x : Unit {0}} → m ≡ Ok x → accepted ≡ number_in r
told_good (Ok x) m i t e = refl
told_good (Err d) m i t e = let p = err_from_is_err_and m t in cc

pub told_bad : (r : Result (Unit {0}) Refusal) (m : Result (Unit {0}) BatchRefusal) (i : ℕ) → Told r m i → {q : BatchRefusal} → m ≡ Err q → (number_of q.refusal ≡ number_in r) × (q.index ≡ i)
told_bad (Ok x) m i t e = cc
told_bad (Err d) m i t {q} e =
    let p = err_from_is_err_and m t in
    let same : q ≡ record { refusal = d; index = i } = cc in
    (ap (λ (b : BatchRefusal). number_of b.refusal) same, ap (λ (b : BatchRefusal). b.index) same)

-- a used job of a batch in which none is bad
pub used_accepted : (n : ℕ) (jobs : List HashManyJob) (used : ℕ) → (first_bad n 0 (take used jobs)).number ≡ accepted → (i : ℕ) (z : HashManyJob) → i < used → i < length jobs
    → job_refusal n (get_or jobs i z) ≡ accepted
used_accepted n jobs used e i z h g =
    ap (job_refusal n) (sym (get_or-take used jobs i z h)) ∙ each_accepted n 0 (take used jobs) e i z (simp length-take (omega arith))

-- a turn of the loop that runs them: the next job is as it came, so it is accepted, and it is put back at its place
pub next_accepted : (n : ℕ) (f : HashManyJob → HashManyJob) (jobs : List HashManyJob) (i : ℕ) (z : HashManyJob) → i < length jobs → (first_bad n 0 jobs).number ≡ accepted
    → {now : List HashManyJob} → now ≡ mapped f i jobs → job_refusal n (get_or now i z) ≡ accepted
next_accepted n f jobs i z there e inv = rw (inv, behind f i jobs i z (omega arith)) (each_accepted n 0 jobs e i z there)

pub next_run : (d : List ℕ) (jobs : List HashManyJob) (i : ℕ) (z : HashManyJob) → i < length jobs → {now : List HashManyJob} {r : HashManyJob}
    → now ≡ mapped (run_over d) i jobs → r ≡ run_over d (get_or now i z) → set now i r ≡ mapped (run_over d) (i + 1) jobs
next_run d jobs i z there {now} inv e =
    rw (e, inv, behind (run_over d) i jobs i z (omega arith), add-one) (one_more (run_over d) i jobs z there)

module _ (most : ℕ) (jobs : List HashManyJob) (used : ℕ) (d : List ℕ) where
  pub batch_refused : most < used → record { number = batch_long; index = 0; jobs = jobs } ≡ jobs_run most jobs used d
  unfolding jobs_run
  batch_refused h = rw (lt-leb used most h)

  module _ (few : used ≤ most) {bad : FirstBad} (e : bad ≡ first_bad (length d) 0 (take used jobs)) where
    pub batch_settled : settled bad jobs used d ≡ jobs_run most jobs used d
    unfolding jobs_run
    batch_settled = rw (le-leb used most few, e)

    pub batch_bad : (bad.number ≡ accepted → ⊥) → record { number = bad.number; index = bad.index; jobs = jobs } ≡ jobs_run most jobs used d
    batch_bad h = ap (λ (js : List HashManyJob). record { number = bad.number; index = bad.index; jobs = js }) (rw (ne_eqb bad.number accepted h)) ∙ batch_settled

    pub batch_run : bad.number ≡ accepted → {js : List HashManyJob} → js ≡ mapped (run_over d) used jobs → record { number = accepted; index = 0; jobs = js } ≡ jobs_run most jobs used d
    batch_run h f =
        let all = take used jobs in
        let none = e ∙ first_accepted (length d) 0 all (ap (λ (b : FirstBad). b.number) (sym e) ∙ h) in
        rw f (ap (λ (b : FirstBad). settled b jobs used d) (sym none) ∙ batch_settled)

-- as the code has it: a refusal leaves the jobs, and the used ones that were run stand in front of the others
module _ (most : ℕ) (jobs : List HashManyJob) (used : ℕ) (d : List ℕ) (few : used ≤ most) where
  pub answer_bad : (e : BatchRefusal) → record { number = number_of e.refusal; index = e.index } ≡ first_bad (length d) 0 (take used jobs) → as_jobs_answer jobs (Err e) ≡ jobs_run most jobs used d
  answer_bad e h = batch_bad most jobs used d few h (never_accepted e.refusal)

  pub answer_run : accepted ≡ (first_bad (length d) 0 (take used jobs)).number → {js : List HashManyJob} → js ≡ map (run_over d) (take used jobs) → as_jobs_answer jobs (Ok (js ++ drop used jobs)) ≡ jobs_run most jobs used d
  answer_run h f = batch_run most jobs used d few refl (sym h) (ap (λ (l : List HashManyJob). l ++ drop used jobs) f)
