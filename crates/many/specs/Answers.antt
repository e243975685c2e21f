-- What the calls on a job and on a batch answer: document 01's number, beside the job, the index of the first bad one, or the jobs.
-- A Result is read as such a record, with what a refusal leaves in place of a value. Assumes nothing.
use Rattle.std.specs.Prelude.{Result, List, ℕ}
use Rattle.refusals.specs.Answers.{number_in, value_in, batch_number_in, index_in}
use Rattle.refusals.specs.declared.refusal.Refusal.{Refusal}
use Rattle.refusals.specs.declared.refusal.BatchRefusal.{BatchRefusal}
use Rattle.many.specs.declared.placed.HashManyJob.{HashManyJob}

pub record JobAnswer : Type 0 where
  pub number : ℕ
  pub job : HashManyJob

pub record FirstBad : Type 0 where
  pub number : ℕ
  pub index : ℕ

pub record JobsAnswer : Type 0 where
  pub number : ℕ
  pub index : ℕ
  pub jobs : List HashManyJob

abbrev pub as_job_answer : HashManyJob → Result HashManyJob Refusal → JobAnswer
as_job_answer z r = record { number = number_in r; job = value_in z r }

abbrev pub as_first_bad : {A : Type 0} → Result A BatchRefusal → FirstBad
as_first_bad r = record { number = batch_number_in r; index = index_in r }

abbrev pub as_jobs_answer : List HashManyJob → Result (List HashManyJob) BatchRefusal → JobsAnswer
as_jobs_answer js r = record { number = batch_number_in r; index = index_in r; jobs = value_in js r }
