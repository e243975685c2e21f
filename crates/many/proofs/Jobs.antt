-- The laws of jobs: what one is that was made, what a batch that accepts it knows of it, and how it is run.
-- Assumes nothing.
use mathlib.Core.Path.{◌≡◌, ap}
use mathlib.Core.Bool.{true, false}
use mathlib.Core.List.{List}
use Prim.Native.Nat.{ℕ, ◌+◌, ◌≤◌}
use native.Mathlib.Omega.{arith}
use Rattle.std.proofs.lemmas.Bool.Decides.{nat_tests}
use lib.ListN.{length}
use Rattle.refusals.specs.Numbers.{accepted, bad_record, limit, piece_ok}
use Rattle.hash.specs.Hash.{no_hash}
use Rattle.blake2b.specs.Params.{in_range}
use Rattle.blake2b.specs.declared.params.Params.{Params}
use Rattle.many_work.specs.Work.{key_bytes, begun}
use Rattle.many_work.specs.declared.work.Work.{Work}
use Rattle.many_work.proofs.Works.{run_finished}
use Rattle.many_work.proofs.Runs.{zero_out_of_range}
use Rattle.many.specs.Job.{placed, zero_job, job_in_range, made_job, input_of, run_over, job_refusal, job_hash}
use Rattle.many.specs.declared.placed.HashManyJob.{HashManyJob}

-- what the making of a job means that was accepted
pub record Made (p : Params) (d : List ℕ) (at n : ℕ) : Type 0 where
  pub good : in_range p ≡ true
  pub fits : piece_ok at n (length d) ≡ true
  pub within : key_bytes p + n ≤ limit
  pub is : (made_job p d at n).job ≡ placed (begun p n) at n

pub made : (p : Params) (d : List ℕ) (at n : ℕ) → (made_job p d at n).number ≡ accepted → Made p d at n
unfolding made_job
made p d at n e = record { good = grind arith; fits = grind arith; within = grind (arith, nat_tests); is = grind arith }

-- what a batch refuses a job with
module _ (n : ℕ) (j : HashManyJob) where
  -- a job that a batch accepts is in range, and is finished or lies inside the data
  pub accepted_range : job_refusal n j ≡ accepted → job_in_range j ≡ true
  unfolding job_refusal
  accepted_range e = grind arith

  pub accepted_inside : job_refusal n j ≡ accepted → j.work.finished ≡ false → piece_ok j.start j.length n ≡ true
  unfolding job_refusal
  accepted_inside e f = grind arith

-- a finished job that is in range is accepted over any data
pub finished_accepted : (n : ℕ) (j : HashManyJob) → job_in_range j ≡ true → j.work.finished ≡ true → job_refusal n j ≡ accepted
unfolding job_refusal
finished_accepted n j good e = rw (good, e)

-- a finished job is left as it is
pub over_finished : (d : List ℕ) (j : HashManyJob) → j.work.finished ≡ true → j ≡ run_over d j
over_finished d j e = ap (λ (w : Work). placed w j.start j.length) (run_finished (input_of d j) j.work e)

-- the zero job of a refusal is refused with 14
pub zero_refused : (n : ℕ) → (job_refusal n zero_job ≡ bad_record) × (job_hash zero_job ≡ no_hash bad_record)
unfolding job_refusal
zero_refused n = let z = zero_out_of_range 0 in (rw z.0, z.1)
