-- `blake2bp_leaves::starts::root_words` meets its contract.
-- Assumes nothing.
use Rattle.laws_states.specs.Leaves.{root_start}
use Rattle.blake2bp_leaves.proofs.starts.root_words.Goals as goal

pub returns : goal.returns
unfolding root_start
returns c = c.node_words.ensures
