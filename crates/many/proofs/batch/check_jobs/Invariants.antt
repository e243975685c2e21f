-- `many::batch::check_jobs` meets its contract. The loop's invariant: what is found among the jobs from the index on is what is found among all.
-- Assumes nothing.
use mathlib.Core.Path.{◌≡◌}
use lib.ListN.{drop}
use Rattle.many.specs.Batch.{first_bad}
use Rattle.many.proofs.batch.check_jobs.Given as goal

abbrev pub invariant-loop-index : goal.invariant-loop-index
invariant-loop-index l = first_bad l.data_length l.index-counter (drop l.index-counter l.jobs) ≡ first_bad l.data_length 0 l.jobs
