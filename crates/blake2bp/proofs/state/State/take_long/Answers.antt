-- `blake2bp::state::State::take_long` meets its contract.
-- Assumes nothing.
use mathlib.Core.Path.{◌≡◌, sym, ap, ◌∙◌}
use mathlib.Core.List.{[], ◌++◌}
use Prim.Native.Nat.{◌+◌, ◌*◌, ◌≤◌}
use native.Mathlib.Omega.{arith}
use lib.ListN.{length}
use Rattle.laws_blocks.specs.Chain.{spare}
use Rattle.laws_states.specs.Buffer as buffer
use Rattle.blake2bp.specs.Sizes.{needbytes}
use Rattle.blake2bp_leaves.specs.Sizes.{rowbytes}
use Rattle.blake2bp.specs.State.{pending, moved}
use Rattle.blake2bp.proofs.state.State.take_long.Goals as goal
use Rattle.blake2bp.proofs.state.State.take_long.Goals.{Start, After-spare_rows-rows}

-- the rows are there, and what stays fits
rows_fit : (c : After-spare_rows-rows) → let n = length c.args.input.now in
    let gone = rowbytes * c.spare_rows-rows.result in
    (gone ≤ n) × (n ≤ gone + (needbytes + rowbytes))
unfolding spare
rows_fit c = let e = c.spare_rows-rows.ensures in omega arith

-- nothing waits
empty : (c : Start) → pending c.args.self ≡ []
unfolding buffer.pending
empty c = rw c.requires.empty

pub fill_buf-requires : goal.fill_buf-requires
fill_buf-requires c = let n = rows_fit (goal.at.fill_buf-requires c).After-spare_rows-rows in omega arith

pub returns-then-rows-eq0 : goal.returns-then-rows-eq0
returns-then-rows-eq0 c =
    let a = c.args in
    c.fill_buf.ensures ∙ ap (moved a.self (pending a.self ++ a.input.now)) (sym c.if-rows-eq0.true ∙ c.spare_rows-rows.ensures)

pub compress_rows-requires : goal.compress_rows-requires
compress_rows-requires c =
    let n = rows_fit (goal.at.compress_rows-requires c).After-spare_rows-rows in
    record { some = omega arith; there = n.0; fits = omega arith; counts = c.requires.counts }

pub returns : goal.returns
returns c =
    let none = empty (goal.at.returns c).Start in
    rw none (c.compress_rows.ensures ∙ ap (moved c.args.self c.args.input.now) c.spare_rows-rows.ensures)
