-- `blake2bp::state::State::finalize` meets its contract.
-- Assumes nothing.
use mathlib.Core.Path.{◌≡◌, ap, ◌∙◌}
use mathlib.Core.Bool.{true}
use mathlib.Core.List.{List, map}
use lib.ListN.{take}
use Rattle.definitions.specs.Family.{BLAKE2b}
use Rattle.laws_states.specs.Buffer.{pending}
use Rattle.laws_states.specs.Leaves.{rooted}
use Rattle.laws_states.proofs.Trees.{length_rooted}
use Rattle.refusals.proofs.Picks.{holds}
use Rattle.hash.proofs.Digests.{made_hash}
use Rattle.blake2bp_leaves.specs.Leaves.{words_of}
use Rattle.blake2bp_leaves.specs.declared.leaves.Leaf.{Leaf}
use Rattle.blake2bp.specs.State.{reads, state_in_range, finalized}
use Rattle.blake2bp.proofs.States.{asked}
use Rattle.blake2bp.proofs.state.State.finalize.Goals as goal

pub returns : goal.returns
unfolding pending finalized
returns c =
    let s = c.args.self in
    let good : state_in_range s ≡ true = rw c.sizes.ensures at c.in_ok-check.ensures.0 in
    holds _ _ _ good
    (made_hash s.hash_length _ (asked s good) (length_rooted BLAKE2b _ _) c.finalize_root_words.ensures
    ∙ ap (λ (ls : List Leaf). reads.made (take s.hash_length (rooted BLAKE2b s.root_words (map words_of ls)))) c.finish_leaves-leaves.ensures)
