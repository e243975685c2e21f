-- A chain of compressions over blocks of bb bytes that start st bytes apart, for any compression F: of a state, a block's bytes, a
-- count, and the flags of the last block and of the last node. Assumes nothing.
use Rattle.std.specs.Prelude.{Bool, false, List, ℕ, zero, suc, ◌+◌, ◌-◌, ◌*◌, ◌/◌, length, take, drop}

-- of n bytes, how many whole rows of st bytes may go so that more than `need` bytes stay
unfoldable pub spare : ℕ → ℕ → ℕ → ℕ
spare st need n = (n - suc need) / st

-- the block k of d
unfoldable pub block_at : ℕ → ℕ → List ℕ → ℕ → List ℕ
block_at bb st d k = take bb (drop (st * k) d)

module _ {W : Type 0} (bb : ℕ) (F : W → List ℕ → ℕ → Bool → Bool → W) (st : ℕ) where
  -- the state after the first k blocks of d, t bytes having gone before; none of them is the last
  unfoldable pub absorb : W → ℕ → List ℕ → ℕ → W
  absorb w t d zero = w
  absorb w t d (suc k) = F (absorb w t d k) (block_at bb st d k) (t + bb * suc k) false false

  -- the state after the first k blocks and then, with these flags, the block k
  unfoldable pub ended : W → ℕ → Bool → Bool → List ℕ → ℕ → W
  ended w t last node d k = F (absorb w t d k) (block_at bb st d k) (t + bb * k + length (block_at bb st d k)) last node

  -- all blocks of d, the last of them with these flags; no bytes are one empty block
  unfoldable pub through : W → ℕ → Bool → Bool → List ℕ → W
  through w t last node d = ended w t last node d (spare st 0 (length d))
