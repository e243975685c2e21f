-- `many::batch::run_jobs` meets its contract.
-- Assumes nothing.
use native.Mathlib.Omega.{arith}
use Rattle.many.proofs.Batches.{next_accepted, next_run}
use Rattle.many.proofs.batch.run_jobs.Goals as goal

pub run_over-requires : goal.run_over-requires
run_over-requires c = next_accepted _ _ c.args.jobs.now c.loop-job.job-index _ (omega arith) c.requires c.loop-job.invariant

pub loop-job-preserved : goal.loop-job-preserved
loop-job-preserved c = next_run c.args.«data».now c.args.jobs.now c.loop-job.job-index _ (omega arith) c.loop-job.invariant c.run_over.ensures
