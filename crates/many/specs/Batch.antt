-- A batch: the first bad job decides, and where there is none each job is run at its place. Over any list of jobs and any limit.
-- Assumes nothing.
use Rattle.std.specs.Prelude.{cond, List, [], ◌∷◌, ◌++◌, map, ℕ, suc, leb, eqb, length, take, drop}
use Rattle.refusals.specs.Numbers.{accepted, batch_long}
use Rattle.refusals.specs.Tests.{test, tested}
use Rattle.many.specs.Job.{run_over, job_refusal}
use Rattle.many.specs.declared.placed.HashManyJob.{HashManyJob}
use Rattle.many.specs.Answers.{FirstBad}
use Rattle.many.specs.Answers.{JobsAnswer}

-- a batch has at most so many jobs
abbrev pub most_jobs : ℕ
most_jobs = 16

-- of jobs over n bytes of data, the first of which stands at the place i: the refusal and the place of the first bad one
unfoldable pub first_bad : ℕ → ℕ → List HashManyJob → FirstBad
first_bad n i [] = record { number = accepted; index = 0 }
first_bad n i (j ∷ js) = cond (eqb (job_refusal n j) accepted) (first_bad n (suc i) js) (record { number = job_refusal n j; index = i })

-- a list whose first k elements were changed by a function, each at its place
abbrev pub mapped : {A : Type 0} → (A → A) → ℕ → List A → List A
mapped f k l = map f (take k l) ++ drop k l

-- the jobs, of which the used ones are run where none is bad
abbrev pub settled : FirstBad → List HashManyJob → ℕ → List ℕ → JobsAnswer
settled bad jobs used d = record {
  number = bad.number;
  index = bad.index;
  jobs = cond (eqb bad.number accepted) (mapped (run_over d) used jobs) jobs;
}

-- 10 where more are used than the limit, then job by job; behind the used ones none is looked at
unfoldable pub jobs_run : ℕ → List HashManyJob → ℕ → List ℕ → JobsAnswer
jobs_run most jobs used d =
    tested (test (leb used most) batch_long ∷ []) (settled (first_bad (length d) 0 (take used jobs)) jobs used d) (λ n. record { number = n; index = 0; jobs = jobs })
