-- `many::batch::run_jobs` meets its contract. The loop's invariant: the jobs before the index were run, each at its place.
-- Assumes nothing.
use mathlib.Core.Path.{◌≡◌}
use Rattle.many.specs.Job.{run_over}
use Rattle.many.specs.Batch.{mapped}
use Rattle.many.proofs.batch.run_jobs.Given as goal

abbrev pub invariant-loop-job : goal.invariant-loop-job
invariant-loop-job l = l.jobs ≡ mapped (run_over l.data) l.job-index l.initial.jobs
