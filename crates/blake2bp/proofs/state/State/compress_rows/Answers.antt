-- `blake2bp::state::State::compress_rows` meets its contract.
-- Assumes nothing.
use Prim.Native.Nat.{◌-◌, ◌*◌}
use native.Mathlib.Omega.{arith}
use lib.ListN.{length, drop, length-drop}
use lib.Seq.{take_all}
use Rattle.blake2bp_leaves.specs.Sizes.{rowbytes}
use Rattle.blake2bp.proofs.Going.{rows_gone}
use Rattle.blake2bp.proofs.state.State.compress_rows.Goals as goal

pub returns : goal.returns
returns c =
    let a = c.args in
    let r = c.requires in
    let gone = rowbytes * a.rows in
    let l = length-drop gone a.all.now in
    rows_gone a.self a.all.now a.rows r.some r.there _ (take_all (length a.all.now - gone) (drop gone a.all.now) (omega arith)) c.compress_to_leaves.ensures c.padded.ensures
