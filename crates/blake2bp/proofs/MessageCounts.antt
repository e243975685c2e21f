-- The two kinds of count: the message count is four times the leaf count and the bytes buffered, without the key blocks.
-- Assumes nothing.
use mathlib.Core.Path.{◌≡◌}
use mathlib.Core.Bool.{true}
use Prim.Native.Nat.{◌+◌, ◌-◌, ◌*◌}
use Rattle.members.specs.Keeper.{key_row}
use Rattle.blake2bp.specs.State.{bounds, state_in_range, counted, leaf_counted, buffered_in}
use Rattle.blake2bp.specs.declared.state.State.{State}
use Rattle.blake2bp_leaves.specs.Sizes.{degree}

-- of what the three calls answer
pub message_count_of_leaf_count : (s : State) → state_in_range s ≡ true → (counted s).count.0 ≡ degree * (leaf_counted s).count.0 + (buffered_in s).buffered - key_row bounds s.is_keyed
unfolding counted leaf_counted buffered_in
message_count_of_leaf_count s e = rw e
