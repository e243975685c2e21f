-- `hash::hex::put_hex` meets its contract.
-- Assumes nothing.
use mathlib.Core.Path.{◌≡◌}
use lib.ListN.{take}
use Rattle.laws_words.specs.Bytes.{over}
use Rattle.hash.specs.Hash.{hex_of}
use Rattle.hash.proofs.hex.put_hex.Given as goal

abbrev pub invariant-loop-i : goal.invariant-loop-i
invariant-loop-i l = l.out ≡ over (hex_of (take l.i l.bytes)) l.initial.out
