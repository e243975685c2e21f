-- `blake2b_state::state::State::update` meets its contract.
-- Assumes nothing.
use mathlib.Core.Path.{◌≡◌, refl, sym, ap}
use mathlib.Core.Bool.{true}
use mathlib.Core.List.{◌++◌}
use Prim.Native.Nat.{ℕ, ◌+◌, ◌≤◌}
use native.Mathlib.Omega.{arith}
use borrow.Author.Tests.{le-leb}
use lib.ListN.{length}
use Rattle.refusals.specs.Numbers.{accepted, limit}
use Rattle.std.specs.Prelude.{Ok}
use Rattle.std.proofs.lemmas.Result.{err_from_is_err_and}
use Rattle.laws_blocks.specs.Chain.{spare}
use Rattle.laws_blocks.proofs.Rows.{spare_none}
use Rattle.laws_states.proofs.Buffers.{Sound}
use Rattle.refusals.proofs.Picks.{holds}
use Rattle.blake2b_state.specs.Answers.{as_state_answer}
use Rattle.blake2b_state.specs.Sizes.{blockbytes}
use Rattle.blake2b_state.specs.State.{pending, moved, total, state_in_range, reads, updated, keeper, machine, core}
use Rattle.blake2b_state.specs.declared.state.State.{State}
use Rattle.members.proofs.Moves.{taken_tight}
use Rattle.members.proofs.Promises.{refused_update}
use Rattle.blake2b_state.proofs.States.{tight, laws, held}
use borrow.Author.Rules.{rules}
use Rattle.blake2b_state.proofs.state.State.update.Goals as goal
use Rattle.blake2b_state.proofs.state.State.update.Goals.{In_ok-check_room, Start}

sized : (c : Start) → length c.args.self.buf ≡ blockbytes
sized c = search rules

none_held : (b n : ℕ) → b ≡ 0 → n ≡ b + n
none_held b n e = omega arith

asked : (c : In_ok-check_room) → let a = c.args in (state_in_range a.self ≡ true) × (total a.self + length a.input.now ≤ limit)
asked c = (rw c.sizes.ensures at c.in_ok-check_room.ensures.0, rw c.sizes.ensures at c.in_ok-check_room.ensures.1)

-- every byte is taken, and k blocks of them go
taken : (c : In_ok-check_room) (k : ℕ) {r : State} → let a = c.args in
    k ≡ spare blockbytes 0 (a.self.buflen + length a.input.now)
    → r ≡ moved a.self (pending a.self ++ a.input.now) k → as_state_answer a.self (Ok r) ≡ updated a.self a.input.now
unfolding updated
taken c k h f =
    let a = c.args in
    let ok = asked c in
    let sound : Sound machine (core a.self) = record { sized = sized (goal.at.In_ok-check_room c).Start; held = held a.self ok.0 } in
    holds _ _ _ ok.0 (holds _ _ _ (le-leb (total a.self + length a.input.now) limit ok.1)
    (ap (reads.state accepted) (taken_tight keeper laws a.self a.input.now sound tight k h f)))

pub returns-in_err-check_room : goal.returns-in_err-check_room
unfolding updated
returns-in_err-check_room c =
    let a = c.args in
    let is = err_from_is_err_and c.from_residual.result c.from_residual.ensures.1 in
    rw (is.1, is.2) (refused_update keeper reads a.self a.input.now c.in_err-check_room.field-0.0 (rw c.sizes.ensures at c.in_err-check_room.ensures))

pub returns-then-input-self : goal.returns-then-input-self
returns-then-input-self c =
    let a = c.args in
    let few = spare_none blockbytes 0 (omega arith) (a.self.buflen + length a.input.now) (omega (arith, held a.self (asked (goal.at.returns-then-input-self c).In_ok-check_room).0, c.if-input-self.true)) in
    taken (goal.at.returns-then-input-self c).In_ok-check_room 0 (sym few) c.fill_buf.ensures

pub returns-then-self-eq0 : goal.returns-then-self-eq0
returns-then-self-eq0 c =
    let a = c.args in
    let n = length a.input.now in
    taken (goal.at.returns-then-self-eq0 c).In_ok-check_room (spare blockbytes 0 n) (ap (spare blockbytes 0) (none_held a.self.buflen n c.if-self-eq0.true)) c.take_long.ensures

pub returns : goal.returns
returns c = taken (goal.at.returns c).In_ok-check_room _ refl c.spill.ensures
