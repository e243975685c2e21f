-- The default parameters ask for the paper's plain tree: no key, and 64 bytes of digest.
-- Assumes nothing.
use mathlib.Core.Path.{◌≡◌, refl}
use mathlib.Core.Bool.{true}
use mathlib.Core.List.{List, [], flat_map}
use Prim.Native.Nat.{ℕ}
use native.Mathlib.Omega.{arith}
use lib.ListN.{length}
use lib.Seq.{length-take-le}
use Rattle.definitions.specs.Words.{from}
use Rattle.definitions.specs.Family.{BLAKE2b}
use Rattle.definitions.specs.Hash.{untruncated}
use Rattle.definitions.specs.Tree.{parameters, leaf, parallel, BLAKE2bp}
use Rattle.laws_blocks.proofs.Sizes.{length_whole}
use Rattle.blake2bp.specs.Params.{defaults}
use Rattle.blake2bp.specs.State.{digest}
use Rattle.blake2bp_leaves.specs.Sizes.{degree, outbytes}

pub digest_plain : (m : List ℕ) → digest defaults m ≡ BLAKE2bp outbytes [] m
digest_plain m = refl

pub length_of_digest : (m : List ℕ) → length (BLAKE2bp outbytes [] m) ≡ outbytes
unfolding parallel
length_of_digest m =
    let states = flat_map (leaf BLAKE2b degree outbytes [] m) (from 0 degree) in
    let whole = length_whole BLAKE2b (omega arith) (parameters BLAKE2b degree outbytes 0 0 1) true states in
    length-take-le outbytes (untruncated BLAKE2b (parameters BLAKE2b degree outbytes 0 0 1) true states) (omega arith)
