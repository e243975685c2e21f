-- `blake2bp_leaves::leaves::run_leaves` meets its contract.
-- Assumes nothing.
use mathlib.Core.Path.{◌∙◌}
use mathlib.Core.List.{[]}
use lib.ListN.{get_or, length-drop}
use Rattle.std.proofs.Common.{rules}
use Rattle.std.proofs.iter.Serving.{serving}
use Rattle.laws_states.specs.Deal.{leaf_through}
use Rattle.guts.specs.Guts.{finalizes}
use Rattle.blake2bp_leaves.specs.Leaves.{on_leaf, leaf_of}
use Rattle.blake2bp_leaves.specs.Sizes.{degree, blockbytes}
use Rattle.blake2bp_leaves.proofs.Calls.{made_by, serves_below}
use Rattle.blake2bp_leaves.proofs.Turns.{each_at}
use Rattle.blake2bp_leaves.proofs.leaves.run_leaves.Goals as goal

pub from_fn-requires : goal.from_fn-requires
from_fn-requires c = (search rules, serves_below _ _ (λ x q h. search rules) (λ x l. grind (serving, length-drop)))

pub returns : goal.returns
returns c =
    let a = c.args in
    let turn = leaf_through blockbytes on_leaf degree a.count.0 (finalizes a.finalize) a.input.now in
    let none = leaf_of [] in
    made_by (λ i. turn i (get_or a.leaves i none)) (λ i l q w. (search rules, search (rules, w.met))) c.from_fn.ensures.items
    ∙ each_at turn a.leaves none 0 degree (search rules)
