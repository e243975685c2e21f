-- BLAKE2b's sizes in bytes: the block, the longest digest and the longest key, and the field of a salt or a personalization.
-- Assumes nothing.
use Rattle.std.specs.Prelude.{ℕ}

abbrev pub blockbytes : ℕ
blockbytes = 128

abbrev pub outbytes : ℕ
outbytes = 64

abbrev pub keybytes : ℕ
keybytes = 64

abbrev pub fieldbytes : ℕ
fieldbytes = 16
