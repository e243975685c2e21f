-- `blake2b_state::state::State::finalize` meets its contract.
-- Assumes nothing.
use mathlib.Core.Path.{◌≡◌, ap, ◌∙◌}
use mathlib.Core.Bool.{true}
use mathlib.Core.List.{List}
use Prim.Native.Nat.{ℕ}
use lib.ListN.{length, take}
use Rattle.laws_states.specs.Buffer.{pending}
use Rattle.hash.proofs.Digests.{digest_length_is, made_hash}
use Rattle.refusals.proofs.Picks.{holds}
use Rattle.definitions.specs.Family.{BLAKE2b}
use Rattle.definitions.specs.Hash.{state_bytes}
use Rattle.laws_blocks.specs.Blocks.{through_blocks}
use Rattle.blake2b_state.specs.Sizes.{blockbytes, outbytes}
use Rattle.blake2b_state.specs.State.{reads, finalized}
use Rattle.blake2b_state.specs.State as state
use Rattle.blake2b_state.proofs.States.{kept}
use borrow.Author.Rules.{rules}
use Rattle.blake2b_state.proofs.state.State.finalize.Goals as goal
use Rattle.blake2b_state.proofs.state.State.finalize.Goals.{After-write_words}

state_long : (c : After-write_words) → length c.write_words.result ≡ outbytes
state_long c = search rules

pub returns : goal.returns
unfolding pending finalized
returns c =
    let s = c.args.self in
    let ok : state.state_in_range s ≡ true = rw c.sizes.ensures at c.in_ok-check.ensures.0 in
    let k = kept s ok in
    let flag = c.from.ensures in
    holds _ _ _ ok
    (made_hash s.hash_length _ (digest_length_is s.hash_length k.least k.most) (state_long (goal.at.returns c).After-write_words) c.from_state.ensures
    ∙ ap (λ (d : List ℕ). reads.made (take s.hash_length d)) c.write_words.ensures
    ∙ ap (λ (c : List ℕ). reads.made (take s.hash_length (state_bytes BLAKE2b c)))
    (c.compress1_loop-run.ensures ∙ (λ j. through_blocks BLAKE2b blockbytes s.words s.count true (flag j) (state.pending s))))
