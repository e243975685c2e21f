-- `hash::hex::put_hex` meets its contract.
-- Assumes nothing.
use mathlib.Core.Path.{refl}
use mathlib.Core.List.{flat_map}
use Rattle.laws_words.specs.Bytes.{over}
use Rattle.hash.specs.Hash.{hex_of}
use Rattle.hash.proofs.Turns.{hex_more}
use Rattle.hash.proofs.hex.put_hex.Goals as goal

pub loop-i-init : goal.loop-i-init
unfolding over hex_of flat_map
loop-i-init c = refl

pub loop-i-preserved : goal.loop-i-preserved
loop-i-preserved c =
    rw (c.loop-i.invariant, c.digit-high.ensures, c.digit-low.ensures)
    (hex_more c.args.bytes.now c.args.out.now c.loop-i.i c.loop-i-test.true c.requires)
