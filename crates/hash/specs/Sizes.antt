-- The most bytes that a digest has, of any member, and the most digits of its text.
-- Assumes nothing.
use Rattle.std.specs.Prelude.{ℕ, ◌*◌}

abbrev pub longest : ℕ
longest = 64

abbrev pub longest_hex : ℕ
longest_hex = 2 * longest
