-- BLAKE2bp's sizes, as its leaves see them: how many leaves there are, and how many bytes go to them and come from them.
-- Assumes nothing.
use Rattle.std.specs.Prelude.{ℕ, ◌*◌}
use Rattle.definitions.specs.Family.{BLAKE2b}

abbrev pub degree : ℕ
degree = 4

-- a block, and a block for each leaf
abbrev pub blockbytes : ℕ
blockbytes = BLAKE2b.bb

abbrev pub rowbytes : ℕ
rowbytes = degree * blockbytes

-- the whole digest of a node, and those of all leaves
abbrev pub outbytes : ℕ
outbytes = 8 * BLAKE2b.ww

abbrev pub leavesbytes : ℕ
leavesbytes = degree * outbytes
