-- What bytes a stride stands for in BLAKE2b and BLAKE2bp.
-- Assumes nothing.
use Rattle.std.specs.Prelude.{ℕ, ◌*◌}
use Rattle.definitions.specs.Family.{BLAKE2b}
use Rattle.guts.specs.declared.Stride.{Stride}
use Rattle.guts.specs.declared.Stride.TheVariants.{Serial, Parallel}

-- the bytes from one block of a run to the next: of BLAKE2bp's four leaves, each has every fourth block
abbrev pub padded_blockbytes : Stride → ℕ
padded_blockbytes Serial = BLAKE2b.bb
padded_blockbytes Parallel = 4 * BLAKE2b.bb
