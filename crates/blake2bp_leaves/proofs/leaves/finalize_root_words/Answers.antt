-- `blake2bp_leaves::leaves::finalize_root_words` meets its contract.
-- Assumes nothing.
use mathlib.Core.Path.{ap, ◌∙◌}
use mathlib.Core.Bool.{true}
use mathlib.Core.List.{List}
use Prim.Native.Nat.{ℕ}
use Rattle.std.proofs.Common.{rules}
use Rattle.std.specs.List.{flat_map}
use Rattle.definitions.specs.Family.{BLAKE2b}
use Rattle.definitions.specs.Hash.{state_bytes}
use Rattle.laws_blocks.specs.Blocks.{through_blocks}
use Rattle.laws_states.specs.Leaves.{rooted}
use Rattle.hash.specs.Hash.{made_from}
use Rattle.blake2bp_leaves.specs.Leaves.{state_of}
use Rattle.blake2bp_leaves.specs.Sizes.{blockbytes}
use Rattle.blake2bp_leaves.proofs.Calls.{mapped_by}
use Rattle.blake2bp_leaves.proofs.Turns.{flat_states}
use Rattle.blake2bp_leaves.proofs.leaves.finalize_root_words.Goals as goal

pub returns : goal.returns
unfolding rooted
returns c =
    let a = c.args in
    let states = mapped_by state_of (λ l y q w. (search rules, search (rules, w.met))) (search rules) c.map-states.ensures.items in
    let bytes = c.as_flattened.ensures.value ∙ ap (flat_map (λ (b : List ℕ). b)) states ∙ flat_states a.leaves in
    let words = c.compress1_loop-run.ensures ∙ ap (through_blocks BLAKE2b blockbytes a.root_words 0 true true) bytes in
    c.from_state.ensures ∙ ap (λ (b : List ℕ). made_from b a.hash_length) (c.write_words.ensures ∙ ap (state_bytes BLAKE2b) words)
