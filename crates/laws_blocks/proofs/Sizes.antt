-- A run of blocks ends in eight words, so that a node's whole digest has eight words' bytes, whatever it hashed.
-- Assumes nothing.
use mathlib.Core.Path.{◌≡◌, ap, ◌∙◌}
use mathlib.Core.Bool.{Bool, true}
use mathlib.Core.List.{List}
use Prim.Native.Nat.{ℕ, ◌*◌, ◌<◌}
use lib.ListN.{length}
use Rattle.definitions.specs.Family.{Family}
use Rattle.definitions.specs.Compress.{F}
use Rattle.definitions.specs.Hash.{Parameters, start, compress, state_bytes, untruncated}
use Rattle.laws_blocks.specs.Chain.{through, ended}
use Rattle.laws_blocks.specs.Blocks.{on_bytes, through_blocks}
use Rattle.laws_words.proofs.Bytes.{length_flat}
use Rattle.laws_blocks.proofs.Calls.{untruncated_through}

pub length_through : (f : Family) (stride : ℕ) (w : List ℕ) (t : ℕ) (last node : Bool) (d : List ℕ) → length (state_bytes f (through_blocks f stride w t last node d)) ≡ 8 * f.ww
unfolding state_bytes through ended on_bytes compress F
length_through f stride w t last node d = length_flat f.ww (through_blocks f stride w t last node d)

pub length_whole : (f : Family) → 0 < f.bb → (p : Parameters) (node : Bool) (d : List ℕ) → length (untruncated f p node d) ≡ 8 * f.ww
length_whole f some p node d = ap length (untruncated_through f some p node d) ∙ length_through f f.bb (start f p) 0 true node d
