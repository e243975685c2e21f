-- `blake2bp::state::State::update` meets its contract.
-- Assumes nothing.
use mathlib.Core.Path.{◌≡◌, ap}
use mathlib.Core.Bool.{true}
use Prim.Native.Nat.{◌+◌, ◌≤◌}
use native.Mathlib.Omega.{arith}
use borrow.Author.Rules.{rules}
use borrow.Author.Tests.{le-leb}
use lib.ListN.{length}
use Rattle.std.proofs.lemmas.Result.{err_from_is_err_and}
use Rattle.refusals.specs.Numbers.{accepted, limit}
use Rattle.refusals.proofs.Picks.{holds}
use Rattle.laws_states.proofs.Buffers.{Sound}
use Rattle.members.proofs.Moves.{taken_long, taken_fill, taken_spill}
use Rattle.members.proofs.Promises.{refused_update}
use Rattle.blake2bp.specs.State.{core, machine, total, pushed, state_in_range, reads, updated, keeper}
use Rattle.blake2bp.specs.declared.state.State.{State}
use Rattle.blake2bp.proofs.States.{keeper_laws, held}
use Rattle.blake2bp.proofs.state.State.update.Goals as goal
use Rattle.blake2bp.proofs.state.State.update.Goals.{In_ok-check_room}

asked : (c : In_ok-check_room) → let a = c.args in (state_in_range a.self ≡ true) × (total a.self + length a.input.now ≤ limit)
asked c = (rw c.sizes.ensures at c.in_ok-check_room.ensures.0, rw c.sizes.ensures at c.in_ok-check_room.ensures.1)

sound : (c : In_ok-check_room) → Sound machine (core c.args.self)
sound c = record { sized = search rules; held = held c.args.self (asked c).0 }

-- every byte is taken
taken : (c : In_ok-check_room) {r : State} → r ≡ pushed c.args.self c.args.input.now
    → record { number = accepted; state = r } ≡ updated c.args.self c.args.input.now
unfolding updated
taken c e = let ok = asked c in holds _ _ _ ok.0 (holds _ _ _ (le-leb _ limit ok.1) (ap (reads.state accepted) e))

pub returns-in_err-check_room : goal.returns-in_err-check_room
unfolding updated
returns-in_err-check_room c =
    let a = c.args in
    let is = err_from_is_err_and c.from_residual.result c.from_residual.ensures.1 in
    rw (is.1, is.2) (refused_update keeper reads a.self a.input.now c.in_err-check_room.field-0.0 (rw c.sizes.ensures at c.in_err-check_room.ensures))

pub returns-then-self-eq0 : goal.returns-then-self-eq0
returns-then-self-eq0 c =
    let a = c.args in
    taken (goal.at.returns-then-self-eq0 c).In_ok-check_room (taken_long keeper keeper_laws a.self a.input.now c.if-self-eq0.true c.take_long.ensures)

pub returns-then-input-self : goal.returns-then-input-self
returns-then-input-self c =
    let here = (goal.at.returns-then-input-self c).In_ok-check_room in
    let a = c.args in
    let h = sound here in
    taken here (taken_fill keeper keeper_laws a.self a.input.now h (omega (arith, c.if-self-eq0.false)) (omega (arith, h.held, c.if-input-self.true)) c.fill_buf.ensures)

pub returns : goal.returns
returns c =
    let here = (goal.at.returns c).In_ok-check_room in
    let a = c.args in
    let h = sound here in
    taken here (taken_spill keeper keeper_laws a.self a.input.now h (omega (arith, h.held, c.if-input-self.false)) c.spill.ensures)
