-- The history of one state: to any updates, digests and counts, in any order and any cuts, it answers as the row of its parameters and
-- the bytes accepted would. So asking changes nothing, and asked twice it answers the same. Assumes nothing.
use mathlib.Core.Path.{◌≡◌}
use mathlib.Core.List.{List, []}
use Prim.Native.Nat.{ℕ}
use Rattle.members.specs.Row.{Call, answers, row}
use Rattle.members.proofs.Promises as promises
use Rattle.blake2bp.specs.State.{fresh, updated, finalized, reads, member}
use Rattle.blake2bp.specs.State as state
use Rattle.blake2bp.specs.Row.{state_taker, row_taker}
use Rattle.blake2bp.specs.declared.params.Params.{Params}
use Rattle.blake2bp.proofs.Cleaned.{Good}
use Rattle.blake2bp.proofs.Fresh.{begun}
use Rattle.blake2bp.proofs.States.{laws, faithful}

-- whatever a fresh state is asked, it answers as the row of no bytes would
pub history : (p : Params) → Good p → (cs : List (Call (List ℕ))) → answers state_taker (fresh p) cs ≡ answers row_taker (row p []) cs
unfolding updated finalized state.counted
history p good cs = promises.history member laws reads faithful p (begun p good) cs
