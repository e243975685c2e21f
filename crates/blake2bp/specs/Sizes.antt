-- BLAKE2bp's sizes in bytes, beside those of its leaves: the buffer, what stays of it, what a key adds, and the longest key.
-- Assumes nothing.
use Rattle.std.specs.Prelude.{ℕ, ◌-◌, ◌*◌}
use Rattle.blake2bp_leaves.specs.Sizes.{degree, blockbytes, rowbytes, outbytes}

-- two rows fit
abbrev pub roombytes : ℕ
roombytes = 2 * rowbytes

-- a row goes as long as more than this stays: a byte for each leaf
abbrev pub needbytes : ℕ
needbytes = (degree - 1) * blockbytes

-- a key block for each leaf
abbrev pub keyrowbytes : ℕ
keyrowbytes = rowbytes

-- a key is no longer than a digest
abbrev pub keybytes : ℕ
keybytes = outbytes
