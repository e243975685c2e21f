-- The chains of BLAKE2, for b and s alike: Chain's, over the definitions' compression.
-- Assumes nothing.
use Rattle.std.specs.Prelude.{Bool, List, ℕ}
use Rattle.definitions.specs.Family.{Family}
use Rattle.definitions.specs.Hash.{compress}
use Rattle.laws_blocks.specs.Chain.{through}

module _ (f : Family) where
  -- the compression, on the bytes of a block
  unfoldable pub on_bytes : List ℕ → List ℕ → ℕ → Bool → Bool → List ℕ
  on_bytes h b t last node = compress f h (record { block = b; count = t; last = last; node = node })

  -- the state after all blocks of d at each multiple of the stride st, t bytes having gone before; the last block has these flags
  abbrev pub through_blocks : ℕ → List ℕ → ℕ → Bool → Bool → List ℕ → List ℕ
  through_blocks st = through f.bb on_bytes st
