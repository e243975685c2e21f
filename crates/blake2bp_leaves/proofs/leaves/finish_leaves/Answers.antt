-- `blake2bp_leaves::leaves::finish_leaves` meets its contract: a finalizing run of every leaf is the end of all.
-- Assumes nothing.
use Rattle.laws_states.specs.Deal.{finished}
use Rattle.blake2bp_leaves.proofs.leaves.finish_leaves.Goals as goal

pub returns : goal.returns
unfolding finished
returns c = c.run_leaves.ensures
