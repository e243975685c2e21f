-- The bytes of a quoted text of ASCII.
-- Assumes nothing.
use Rattle.std.specs.Prelude.{List, [] as nothing, ◌∷◌ as ◌then◌, ℕ}
use Prim.Native.Char.{code}
use Prim.Native.String.{String, [], ◌∷◌}

abbrev pub ascii : String → List ℕ
ascii [] = nothing
ascii (c ∷ s) = code c then ascii s
