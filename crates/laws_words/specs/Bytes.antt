-- Bytes of a buffer: zeros, and bytes that are laid over what was there.
-- Assumes nothing.
use Rattle.std.specs.Prelude.{List, ◌++◌, ℕ, length, drop, replicate}

-- n zeros, shut: a thousand of them would be written out
unfoldable pub zeros : ℕ → List ℕ
zeros n = replicate n 0

-- rest, over what lies there
unfoldable pub over : List ℕ → List ℕ → List ℕ
over rest b = rest ++ drop (length rest) b
