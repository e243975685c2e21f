-- What the words of a finalizing run are: of a whole message the untruncated digest, of a leaf's blocks the calls of F of its share.
-- Assumes nothing.
use mathlib.Core.Path.{◌≡◌, sym, ap, ◌∙◌}
use mathlib.Core.Bool.{Bool, true}
use mathlib.Core.List.{List, foldl}
use Prim.Native.Nat.{ℕ, ◌*◌}
use native.Mathlib.Omega.{arith}
use lib.ListN.{drop}
use Rattle.definitions.specs.Family.{BLAKE2b}
use Rattle.definitions.specs.Hash.{Parameters, start, calls, compress, state_bytes, untruncated}
use Rattle.definitions.specs.Tree.{share}
use Rattle.laws_blocks.specs.Blocks.{through_blocks}
use Rattle.laws_blocks.proofs.Calls.{untruncated_through, share_calls_through}
use Rattle.guts.specs.declared.Stride.TheVariants.{Serial, Parallel}
use Rattle.portable.specs.Strides.{padded_blockbytes}

pub serial_run : (p : Parameters) (node : Bool) (d : List ℕ) {words : List ℕ}
    → words ≡ through_blocks BLAKE2b (padded_blockbytes Serial) (start BLAKE2b p) 0 true node d → state_bytes BLAKE2b words ≡ untruncated BLAKE2b p node d
serial_run p node d e = ap (state_bytes BLAKE2b) e ∙ sym (untruncated_through BLAKE2b (omega arith) p node d)

pub leaf_run_lem : (h : List ℕ) (node : Bool) (m : List ℕ) (i : ℕ) {words : List ℕ}
    → words ≡ through_blocks BLAKE2b (padded_blockbytes Parallel) h 0 true node (drop (i * BLAKE2b.bb) m)
    → words ≡ foldl (compress BLAKE2b) h (calls BLAKE2b node (share BLAKE2b.bb 4 m i))
leaf_run_lem h node m i e = e ∙ sym (share_calls_through BLAKE2b (omega arith) 4 (omega arith) h node m i)
