-- A block and then the rest, in two runs of the chain or in one: what a key block that went first comes to. For any compression.
-- Assumes nothing.
use mathlib.Core.Path.{◌≡◌, sym, ◌∙◌}
use mathlib.Core.Bool.{Bool, false}
use mathlib.Core.List.{List, ◌++◌}
use Prim.Native.Nat.{ℕ, ◌+◌, ◌*◌, ◌<◌}
use native.Mathlib.Omega.{arith}
use lib.ListN.{length, length-append}
use lib.Seq.{take_all, drop_at}
use Rattle.laws_blocks.specs.Chain.{block_at, absorb, through}
use Rattle.laws_blocks.proofs.Chains.{absorb_front, through_whole, through_late}
use Rattle.laws_blocks.proofs.Rows.{le_spare, spare_none}

module _ {W : Type 0} (bb : ℕ) (F : W → List ℕ → ℕ → Bool → Bool → W) (some : 0 < bb) (w : W) (t : ℕ) (b : List ℕ) (block : length b ≡ bb) where
  one_block : through bb F bb w t false false b ≡ absorb bb F bb w t b 1
  unfolding block_at
  one_block =
      let z : bb * 0 ≡ 0 = omega arith in
      through_whole bb F bb w t b 0 (spare_none bb 0 some (length b) (omega arith)) (rw (z, take_all bb b (omega arith)) block)

  -- what follows the block is not empty, so that the block is not the last
  pub through_behind : (last node : Bool) (m : List ℕ) → 0 < length m
      → through bb F bb (through bb F bb w t false false b) (t + bb) last node m ≡ through bb F bb w t last node (b ++ m)
  through_behind last node m more =
      let l = length-append b m in
      let one : bb * 1 ≡ bb = omega arith in
      let first : through bb F bb w t false false b ≡ absorb bb F bb w t (b ++ m) 1 = one_block ∙ sym (absorb_front bb F bb w t b m 1 (omega arith)) in
      let late = through_late bb F bb some w t last node (b ++ m) 1 (le_spare bb 0 some (length (b ++ m)) 1 (omega arith)) in
      rw first (rw (one, drop_at b m bb block) at late)
