-- A block fits between a block of a run and the next.
-- Assumes nothing.
use Prim.Native.Nat.{◌≤◌}
use lib.Dec.{lit<}
use Rattle.definitions.specs.Family.{BLAKE2b}
use Rattle.guts.specs.declared.Stride.{Stride}
use Rattle.guts.specs.declared.Stride.TheVariants.{Serial, Parallel}
use Rattle.portable.specs.Strides.{padded_blockbytes}

pub row_wide : (s : Stride) → BLAKE2b.bb ≤ padded_blockbytes s
row_wide Serial = lit< tt
row_wide Parallel = lit< tt
