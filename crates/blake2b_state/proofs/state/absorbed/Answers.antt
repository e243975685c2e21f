-- `blake2b_state::state::absorbed` meets its contract.
-- Assumes nothing.
use mathlib.Core.Path.{◌≡◌, ◌∙◌}
use Prim.Native.Nat.{ℕ, zero, suc, ◌*◌, ◌<◌}
use native.Mathlib.Omega.{arith}
use lib.ListN.{length, drop, length-drop}
use lib.Seq.{length-take-le}
use Rattle.definitions.specs.Family.{BLAKE2b}
use Rattle.laws_blocks.specs.Chain.{block_at, absorb}
use Rattle.laws_blocks.specs.Blocks.{on_bytes, through_blocks}
use Rattle.laws_blocks.proofs.Chains.{through_whole}
use Rattle.laws_blocks.proofs.Rows.{spare_is}
use mathlib.Core.Bool.{false}
use mathlib.Core.List.{List}
use native.Mathlib.Nat.{not-suc-le-zero}
use Rattle.blake2b_state.specs.Sizes.{blockbytes}
use Rattle.blake2b_state.proofs.state.absorbed.Goals as goal

whole : (w : List ℕ) (t : ℕ) (d : List ℕ) (k : ℕ) → 0 < k → length d ≡ blockbytes * k → through_blocks BLAKE2b blockbytes w t false false d ≡ absorb blockbytes (on_bytes BLAKE2b) blockbytes w t d k
unfolding block_at
whole w t d zero h e = absurd (not-suc-le-zero h)
whole w t d (suc k) h e =
    through_whole blockbytes (on_bytes BLAKE2b) blockbytes w t d k (spare_is blockbytes 0 (omega arith) (length d) k (omega arith) (omega arith))
    (length-take-le blockbytes (drop (blockbytes * k) d) (rw length-drop (omega arith)))

pub returns : goal.returns
returns c =
    let a = c.args in
    c.compress1_loop.ensures ∙ whole a.words a.count a.input.now a.blocks c.requires.0 c.requires.1
