-- The block at an offset of an input d, in blocks of bb bytes: what a buffer is padded to, and which bytes are the block.
-- Assumes nothing.
use Rattle.std.specs.Prelude.{cond, List, ℕ, ltb, length, take, drop}
use Rattle.definitions.specs.Words.{pad}

-- the buffer once it was padded: what is left of the input, where that is less than a block, and zeros; else as it was
unfoldable pub padded_buffer : ℕ → List ℕ → ℕ → List ℕ → List ℕ
padded_buffer bb d offset buffer = cond (ltb (length (drop offset d)) bb) (pad bb (drop offset d)) buffer

-- the block: the buffer where less than a block is left, else the input's own bytes
unfoldable pub final_block : ℕ → List ℕ → ℕ → List ℕ → List ℕ
final_block bb d offset buffer = cond (ltb (length (drop offset d)) bb) buffer (take bb (drop offset d))
