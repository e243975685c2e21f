-- `many::batch::hash_many` meets its contract.
-- Assumes nothing.
use mathlib.Core.Path.{ap}
use Rattle.std.proofs.lemmas.Result.{err_from_is_err_and}
use Rattle.many.specs.Batch.{most_jobs}
use Rattle.many.specs.Answers.{FirstBad}
use Rattle.many.proofs.Batches.{batch_refused, answer_bad, answer_run}
use Rattle.many.proofs.batch.hash_many.Goals as goal

pub returns-then-used-gt-MOST_JOBS : goal.returns-then-used-gt-MOST_JOBS
returns-then-used-gt-MOST_JOBS c =
    let a = c.args in
    batch_refused most_jobs a.jobs a.used a.«data».now c.if-used-gt-MOST_JOBS.true

pub returns-in_err-check_jobs : goal.returns-in_err-check_jobs
returns-in_err-check_jobs c =
    let a = c.args in
    let p = err_from_is_err_and c.from_residual.result c.from_residual.ensures.1 in
    rw (p.1, p.2) (answer_bad most_jobs a.jobs a.used a.«data».now c.if-used-gt-MOST_JOBS.false _ c.in_err-check_jobs.ensures)

pub returns : goal.returns
returns c =
    let a = c.args in
    answer_run most_jobs a.jobs a.used a.«data».now c.if-used-gt-MOST_JOBS.false (ap (λ (f : FirstBad). f.number) c.in_ok-check_jobs.ensures) c.run_jobs.ensures
