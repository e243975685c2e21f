-- `words::write_words` meets its contract. The loop's invariant: the bytes of the words so far are written.
-- Assumes nothing.
use mathlib.Core.Path.{◌≡◌}
use mathlib.Core.List.{flat_map}
use Prim.Native.Nat.{◌*◌}
use lib.ListN.{length, take}
use Rattle.definitions.specs.Words.{bytes}
use Rattle.words.proofs.write_words.Given as goal

abbrev pub invariant-loop-i : goal.invariant-loop-i
invariant-loop-i l = (length l.out ≡ 64) × (take (l.i * 8) l.out ≡ flat_map (bytes 8) (take l.i l.fn.h))
