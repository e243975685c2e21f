-- What the calls on work and on a job that holds its input answer: document 01's number, beside the work or the job.
-- A Result is read as such a record, with what a refusal leaves in place of a job. Assumes nothing.
use Rattle.std.specs.Prelude.{Result, ℕ}
use Rattle.refusals.specs.Answers.{number_in, value_in}
use Rattle.refusals.specs.declared.refusal.Refusal.{Refusal}
use Rattle.many_work.specs.declared.work.Work.{Work}
use Rattle.many_held.specs.declared.held_job.HashManyJob.{HashManyJob}

pub record WorkAnswer : Type 0 where
  pub number : ℕ
  pub work : Work

pub record JobAnswer : Type 0 where
  pub number : ℕ
  pub job : HashManyJob

abbrev pub as_job_answer : HashManyJob → Result HashManyJob Refusal → JobAnswer
as_job_answer z r = record { number = number_in r; job = value_in z r }
