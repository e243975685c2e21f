-- `blake2b_state::state::State::take_long` meets its contract.
-- Assumes nothing.
use mathlib.Core.Path.{◌≡◌, refl, ap, ◌∙◌}
use Prim.Native.Nat.{◌+◌, ◌*◌, ◌≤◌}
use native.Mathlib.Omega.{arith}
use lib.ListN.{length, take, length-take, length-drop}
use Rattle.laws_blocks.specs.Chain.{spare}
use Rattle.laws_states.proofs.Lifts.{held_is, long_made}
use Rattle.blake2b_state.specs.Sizes.{blockbytes}
use Rattle.blake2b_state.specs.State.{machine}
use Rattle.blake2b_state.proofs.States.{store, lawful}
use borrow.Author.Rules.{rules}
use Rattle.blake2b_state.proofs.state.State.take_long.Goals as goal
use Rattle.blake2b_state.proofs.state.State.take_long.Goals.{After-compress_blocks-s, After-spare_blocks-blocks}

-- the blocks are there, and what stays fits
blocks_fit : (c : After-spare_blocks-blocks) → let n = length c.args.input.now in
    let gone = blockbytes * c.spare_blocks-blocks.result in
    (gone ≤ n) × (n ≤ gone + blockbytes)
unfolding spare
blocks_fit c = let e = c.spare_blocks-blocks.ensures in omega arith

pub overflow_mul-end : goal.overflow_mul-end
overflow_mul-end c = let n = blocks_fit c in omega arith

pub slice_bounds-compress_blocks-end : goal.slice_bounds-compress_blocks-end
slice_bounds-compress_blocks-end c = let n = blocks_fit c in simp length-take (omega arith)

pub compress_blocks-s-requires : goal.compress_blocks-s-requires
compress_blocks-s-requires c =
    let n = blocks_fit c in
    (search rules, simp length-take (omega arith), simp length-take (omega arith))

-- nothing waits behind whole blocks
emptied : (c : After-compress_blocks-s) → c.compress_blocks-s.result.buflen ≡ 0
emptied c =
    let a = c.args in
    let n = blocks_fit (goal.at.After-compress_blocks-s c).After-spare_blocks-blocks in
    let front = take (blockbytes * c.spare_blocks-blocks.result) a.input.now in
    let l : length front ≡ blockbytes * c.spare_blocks-blocks.result = simp length-take (omega arith) in
    held_is store machine lawful a.self c.compress_blocks-s.result front c.spare_blocks-blocks.result c.compress_blocks-s.ensures ∙ omega arith

pub fill_buf-requires : goal.fill_buf-requires
fill_buf-requires c =
    let n = blocks_fit (goal.at.fill_buf-requires c).After-spare_blocks-blocks in
    let z = emptied (goal.at.fill_buf-requires c).After-compress_blocks-s in
    let l = ap length c.offset_slice.ensures ∙ length-drop (blockbytes * c.spare_blocks-blocks.result) c.args.input.now in
    omega arith

pub returns : goal.returns
returns c =
    let a = c.args in
    let b = c.compress_blocks-s in
    let k = c.spare_blocks-blocks.result in
    let n = blocks_fit (goal.at.returns c).After-spare_blocks-blocks in
    rw (← c.spare_blocks-blocks.ensures)
    (long_made store machine lawful a.self b.result c.fill_buf.result a.input.now k (blockbytes * k) refl n.0 (search rules) b.ensures
    (rw c.offset_slice.ensures at c.fill_buf.ensures))
