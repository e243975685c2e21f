-- `many_held::held_job::hash_through_job` meets its contract.
-- Assumes nothing.
use mathlib.Core.Path.{◌≡◌, ap, ◌∙◌}
use lib.ListN.{length}
use Rattle.std.proofs.Common.{rules}
use Rattle.blake2b_state.specs.Sizes.{blockbytes}
use Rattle.many_work.specs.Work.{zero_work}
use Rattle.many_held.specs.Answers.{JobAnswer}
use Rattle.many_held.specs.HeldJob.{holding, ran_job, job_hash}
use Rattle.many_held.specs.Steps.{unless_refused}
use Rattle.many_held.proofs.Answers.{through}
use Rattle.many_held.proofs.held_job.hash_through_job.Goals as goal
use Rattle.many_held.proofs.held_job.hash_through_job.Goals.{Start}

whole : (c : Start) → length c.args.params.key_block ≡ blockbytes
whole c = search rules

-- what the calls promised of one another's answers
pub returns : goal.returns
returns c =
    c.unless_refused.ensures (holding zero_work c.args.input)
    ∙ ap (λ (a : JobAnswer). unless_refused a.number (job_hash (ran_job a.job).job)) c.new.ensures
    ∙ through c.args.params (whole (goal.at.returns c).Start) c.args.input.now
