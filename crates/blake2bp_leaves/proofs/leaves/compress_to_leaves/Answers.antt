-- `blake2bp_leaves::leaves::compress_to_leaves` meets its contract: a run of every leaf over whole rows deals them.
-- Assumes nothing.
use mathlib.Core.Path.{◌∙◌}
use native.Mathlib.Omega.{arith}
use Rattle.laws_states.proofs.Deals.{rows_dealt}
use Rattle.blake2bp_leaves.specs.Leaves.{on_leaf}
use Rattle.blake2bp_leaves.specs.Sizes.{degree, blockbytes}
use Rattle.blake2bp_leaves.proofs.leaves.compress_to_leaves.Goals as goal

pub returns : goal.returns
returns c =
    let a = c.args in
    c.run_leaves.ensures ∙ rows_dealt blockbytes on_leaf (omega arith) degree (omega arith) a.leaves a.count.0 a.input.now a.rows c.requires.0 c.requires.1
