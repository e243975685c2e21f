-- Jobs that hold their input: the work of one, a job of some work and an input, and what each call answers.
-- Assumes nothing.
use Rattle.std.specs.Prelude.{List, ℕ, length}
use Rattle.std.specs.Borrow.{Bor}
use Rattle.hash.specs.Answers.{HashAnswer}
use Rattle.blake2b.specs.declared.params.Params.{Params}
use Rattle.many_work.specs.Work.{work_hash}
use Rattle.many_work.specs.declared.work.Work.{Work}
use Rattle.many_held.specs.Steps.{made_work, ran_work}
use Rattle.many_held.specs.Answers.{WorkAnswer, JobAnswer}
use Rattle.many_held.specs.declared.held_job.HashManyJob.{HashManyJob}

-- the work of a job
abbrev pub work_of : HashManyJob → Work
work_of j = j.work

-- the job of some work that holds an input
abbrev pub holding : Work → Bor (List ℕ) → HashManyJob
holding w x = record { work = w; input = x }

abbrev pub answered : WorkAnswer → Bor (List ℕ) → JobAnswer
answered a x = record { number = a.number; job = holding a.work x }

-- what the three calls answer
abbrev pub made_job : Params → Bor (List ℕ) → JobAnswer
made_job p x = answered (made_work p x.now) x

abbrev pub ran_job : HashManyJob → JobAnswer
ran_job j = answered (ran_work (work_of j) j.input.now) j.input

abbrev pub job_hash : HashManyJob → HashAnswer
job_hash j = work_hash (work_of j) (length j.input.now)
