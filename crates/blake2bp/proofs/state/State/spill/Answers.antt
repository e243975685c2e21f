-- `blake2bp::state::State::spill` meets its contract.
-- Assumes nothing.
use mathlib.Core.Path.{◌≡◌, ap, ◌∙◌}
use Prim.Native.Nat.{◌-◌}
use native.Mathlib.Omega.{arith}
use lib.ListN.{length, length-drop}
use Rattle.laws_blocks.specs.Chain.{spare}
use Rattle.laws_states.proofs.TwoRows.{spare_both, spare_half}
use Rattle.blake2bp_leaves.specs.Sizes.{rowbytes}
use Rattle.blake2bp.specs.Sizes.{needbytes, roombytes}
use Rattle.blake2bp.proofs.Spilling.{Filled, full_count, left_held, left_count, spilled}
use borrow.Author.Rules.{rules}
use Rattle.blake2bp.proofs.state.State.spill.Goals as goal
use Rattle.blake2bp.proofs.state.State.spill.Goals.{After-offset_slice-rest}

full : (c : After-offset_slice-rest) → Filled c.args.self c.args.input.now c.fill_buf-full.result
full c = record { sized = search rules; held = c.requires.held; more = c.requires.more; filled = c.fill_buf-full.ensures; whole = search rules }

-- the bytes that are still to come
coming : (c : After-offset_slice-rest) → length c.offset_slice-rest.result.now ≡ length c.args.input.now - (roombytes - c.args.self.buf_len)
coming c = ap length c.offset_slice-rest.ensures ∙ length-drop (roombytes - c.args.self.buf_len) c.args.input.now

pub compress_rows-requires : goal.compress_rows-requires
compress_rows-requires c =
    let h = full (goal.at.compress_rows-requires c).After-offset_slice-rest in
    let n = full_count c.args.self c.args.input.now c.fill_buf-full.result h in
    record { some = omega arith; there = omega (arith, h.whole); fits = omega (arith, h.whole); counts = omega (arith, h.whole, h.more, c.requires.counts) }

pub take_long-requires : goal.take_long-requires
take_long-requires c =
    let here = (goal.at.take_long-requires c).After-offset_slice-rest in
    let h = full here in
    let l = coming here in
    let s = c.args.self in
    let e = c.compress_rows in
    let n = left_count s c.args.input.now c.fill_buf-full.result h e.result 2 e.ensures in
    record {
      empty = left_held s c.args.input.now c.fill_buf-full.result h e.result 2 e.ensures;
      counts = omega (arith, h.held, h.more, c.requires.counts);
    }

pub returns-then-rest-gt-NEED : goal.returns-then-rest-gt-NEED
returns-then-rest-gt-NEED c =
    let here = (goal.at.returns-then-rest-gt-NEED c).After-offset_slice-rest in
    let h = full here in
    let s = c.args.self in
    let a = c.args.input.now in
    let e = c.compress_rows in
    let rest = c.offset_slice-rest in
    let x = length rest.result.now in
    spilled s a c.fill_buf-full.result h e.result 2 e.ensures rest.result.now rest.ensures c.take_long.result (spare rowbytes needbytes x) c.take_long.ensures (omega arith)
    (spare_both rowbytes needbytes (omega arith) (omega arith) s.buf_len (length a) x h.held (omega (arith, h.more)) (coming here) c.if-rest-gt-NEED.true)

pub compress_rows-requires-2 : goal.compress_rows-requires-2
compress_rows-requires-2 c =
    let h = full (goal.at.compress_rows-requires-2 c).After-offset_slice-rest in
    let n = full_count c.args.self c.args.input.now c.fill_buf-full.result h in
    record { some = omega arith; there = omega (arith, h.whole); fits = omega (arith, h.whole); counts = omega (arith, h.whole, h.more, c.requires.counts) }

pub fill_buf-requires : goal.fill_buf-requires
fill_buf-requires c =
    let e = c.compress_rows-2 in
    let l = left_held c.args.self c.args.input.now c.fill_buf-full.result (full (goal.at.fill_buf-requires c).After-offset_slice-rest) e.result 1 e.ensures in
    omega (arith, c.if-rest-gt-NEED.false)

pub returns : goal.returns
returns c =
    let here = (goal.at.returns c).After-offset_slice-rest in
    let h = full here in
    let s = c.args.self in
    let a = c.args.input.now in
    let e = c.compress_rows-2 in
    let rest = c.offset_slice-rest in
    let l = coming here in
    spilled s a c.fill_buf-full.result h e.result 1 e.ensures rest.result.now rest.ensures c.fill_buf.result 0 c.fill_buf.ensures (omega arith)
    (spare_half rowbytes needbytes (omega arith) (omega arith) s.buf_len (length a) (length rest.result.now) h.held (omega (arith, h.more)) l
    (omega (arith, h.more, h.held)) c.if-rest-gt-NEED.false)
