-- `blake2b_state::state::State::spill` meets its contract.
-- Assumes nothing.
use mathlib.Core.Path.{◌≡◌, ap, ◌∙◌}
use Prim.Native.Nat.{ℕ, ◌+◌, ◌-◌, ◌^◌, ◌<◌, ◌≤◌}
use native.Mathlib.Omega.{arith}
use lib.ListN.{length, drop, length-drop}
use Rattle.laws_blocks.specs.Chain.{spare}
use Rattle.laws_states.proofs.Buffers.{Sound}
use Rattle.laws_states.proofs.Lifts.{filled_held, filled_count, gone_held, gone_count, spill_is}
use Rattle.blake2b_state.specs.Sizes.{blockbytes}
use Rattle.blake2b_state.specs.State.{machine, core}
use Rattle.blake2b_state.proofs.States.{store, lawful}
use borrow.Author.Rules.{rules}
use Rattle.blake2b_state.proofs.state.State.spill.Goals as goal
use Rattle.blake2b_state.proofs.state.State.spill.Goals.{After-fill_buf-full, After-offset_slice, Start}

-- what the entry says
record Entry (c : Start) : Type 0 where
  sized : length c.args.self.buf ≡ blockbytes
  held : c.args.self.buflen ≤ blockbytes
  more : blockbytes < c.args.self.buflen + length c.args.input.now
  rest : blockbytes - c.args.self.buflen ≤ length c.args.input.now
  small : c.args.self.count + c.args.self.buflen + length c.args.input.now < 2 ^ 64

entry : (c : Start) → Entry c
entry c = record { sized = search rules; held = search rules; more = search rules; rest = omega arith; small = search rules }

sound_entry : (c : Start) → Sound machine (core c.args.self)
sound_entry c = record { sized = (entry c).sized; held = (entry c).held }

sized_full : (c : After-fill_buf-full) → length c.fill_buf-full.result.buf ≡ blockbytes
sized_full c = search rules

spare_one : (p n x : ℕ) → p ≤ blockbytes → blockbytes < p + n → x ≡ n - (blockbytes - p) → 1 + spare blockbytes 0 x ≡ spare blockbytes 0 (p + n)
unfolding spare
spare_one p n x h g e = omega arith

pub compress_buffer-s-requires : goal.compress_buffer-s-requires
compress_buffer-s-requires c =
    let a = c.args in
    let e = entry (goal.at.compress_buffer-s-requires c).Start in
    let f = c.fill_buf-full in
    let h = filled_held store machine lawful a.self a.input.now (sound_entry (goal.at.compress_buffer-s-requires c).Start) e.more f.result f.ensures in
    let k = filled_count store machine lawful a.self a.input.now (sound_entry (goal.at.compress_buffer-s-requires c).Start) e.more f.result f.ensures in
    (h, omega (arith, e.small, e.more, e.rest))

offset_slice_length : (c : After-offset_slice) → let a = c.args in
    length c.offset_slice.result.now ≡ length a.input.now - (blockbytes - a.self.buflen)
offset_slice_length c =
    let a = c.args in
    ap length c.offset_slice.ensures ∙ length-drop (blockbytes - a.self.buflen) a.input.now

pub take_long-requires : goal.take_long-requires
take_long-requires c =
    let here = goal.at.take_long-requires c in
    let b = c.compress_buffer-s in
    let f = c.fill_buf-full in
    let a = c.args in
    let e = entry here.Start in
    let l = offset_slice_length c in
    let h = gone_held store machine lawful a.self a.input.now (sound_entry here.Start) e.more f.result f.ensures (sized_full here.After-fill_buf-full) b.result 1 b.ensures in
    let k = gone_count store machine lawful a.self a.input.now (sound_entry here.Start) e.more f.result f.ensures (sized_full here.After-fill_buf-full) b.result 1 b.ensures in
    (h, omega (arith, e.small, e.more, e.rest))

pub returns : goal.returns
returns c =
    let b = c.compress_buffer-s in
    let a = c.args in
    let e = entry (goal.at.returns c).Start in
    let rest = drop (blockbytes - a.self.buflen) a.input.now in
    spill_is store machine lawful a.self a.input.now (sound_entry (goal.at.returns c).Start) e.more c.fill_buf-full.result c.fill_buf-full.ensures (sized_full (goal.at.returns c).After-fill_buf-full)
    b.result 1 b.ensures c.take_long.result (spare blockbytes 0 (length rest))
    (rw c.offset_slice.ensures at c.take_long.ensures) (omega arith)
    (spare_one a.self.buflen (length a.input.now) (length rest) e.held e.more (length-drop (blockbytes - a.self.buflen) a.input.now))
