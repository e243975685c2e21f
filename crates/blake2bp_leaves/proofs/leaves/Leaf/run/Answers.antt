-- `blake2bp_leaves::leaves::Leaf::run` meets its contract.
-- Assumes nothing.
use mathlib.Core.Bool.{◌&&◌}
use Rattle.guts.specs.Guts.{finalizes, is_last_node}
use Rattle.blake2bp_leaves.proofs.Turns.{run_made}
use Rattle.blake2bp_leaves.proofs.leaves.Leaf.run.Goals as goal

pub returns : goal.returns
returns c =
    let a = c.args in
    run_made a.self a.count.0 (finalizes a.finalize) (finalizes a.finalize && is_last_node a.last_node) a.input.now c.compress1_loop-run.ensures
