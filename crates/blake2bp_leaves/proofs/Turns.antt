-- What a run of a leaf does, and where the leaves start, what each gets and the bytes of all.
-- Assumes nothing.
use mathlib.Core.Path.{◌≡◌, refl, sym, ap, ◌∙◌}
use mathlib.Core.Bool.{Bool}
use mathlib.Core.List.{List, [], ◌∷◌, ◌++◌, map, flat_map}
use Prim.Native.Nat.{ℕ, zero, suc, ◌+◌}
use native.Mathlib.Omega.{arith}
use lib.ListN.{length, get_or, drop, drop_of_length-le, replicate}
use lib.Seq.{drop-cons}
use Rattle.std.specs.List.{flat_map as flat_lists}
use Rattle.definitions.specs.Words.{from, pad}
use Rattle.definitions.specs.Family.{BLAKE2b}
use Rattle.definitions.specs.Hash.{start, parameter_block, state_bytes}
use Rattle.definitions.specs.Tree.{parameters}
use Rattle.laws_blocks.specs.Chain.{through}
use Rattle.laws_blocks.specs.Blocks.{on_bytes, through_blocks}
use Rattle.laws_states.specs.Deal.{each}
use Rattle.laws_states.proofs.Images.{through_image}
use Rattle.blake2bp_leaves.specs.Leaves.{leaf_of, words_of, state_of, on_leaf}
use Rattle.blake2bp_leaves.specs.declared.leaves.Leaf.{Leaf}
use Rattle.blake2bp_leaves.specs.Sizes.{degree, blockbytes, rowbytes, outbytes}

pub words_on_leaf : (l : Leaf) (b : List ℕ) (t : ℕ) (last node : Bool) → words_of (on_leaf l b t last node) ≡ on_bytes BLAKE2b (words_of l) b t last node
unfolding on_leaf
words_on_leaf l b t last node = refl

-- a run on the words is a run on the leaf
pub run_made : (l : Leaf) (t : ℕ) (last node : Bool) (d : List ℕ) {w : List ℕ} → w ≡ through_blocks BLAKE2b rowbytes l.words t last node d
    → leaf_of w ≡ through blockbytes on_leaf rowbytes l t last node d
run_made l t last node d e = ap leaf_of (e ∙ sym (through_image words_of blockbytes on_leaf (on_bytes BLAKE2b) words_on_leaf rowbytes l t last node d))

-- the leaves' states, one behind the other, are those of their words
pub flat_states : (ls : List Leaf) → flat_lists (λ (b : List ℕ). b) (map state_of ls) ≡ flat_map (state_bytes BLAKE2b) (map words_of ls)
unfolding flat_map
flat_states [] = refl
flat_states (l ∷ ls) = ap (λ (b : List ℕ). state_of l ++ b) (flat_states ls)

-- g of each leaf, at its number
pub each_at : (g : ℕ → Leaf → Leaf) (ls : List Leaf) (z : Leaf) (i n : ℕ) → i + n ≡ length ls → map (λ j. g j (get_or ls j z)) (from i n) ≡ each g i n (drop i ls)
unfolding each
each_at g ls z i zero e = sym (drop_of_length-le ls (omega arith))
each_at g ls z i (suc n) e = rw (drop-cons ls i z (omega arith), each_at g ls z (suc i) n (omega arith))

-- parameters whose salt and personalization are zeros are those that have none
pub zeros_are_none : (d k o e : ℕ)
    → start BLAKE2b (record {
      digest_length = d;
      key_length = k;
      fanout = degree;
      depth = 2;
      leaf_length = 0;
      node_offset = o;
      node_depth = e;
      inner_length = outbytes;
      salt = replicate BLAKE2b.salt_bytes 0;
      personal = replicate BLAKE2b.salt_bytes 0;
    }) ≡ start BLAKE2b (parameters BLAKE2b degree d k o e)
unfolding start parameter_block pad parameters
zeros_are_none d k o e = refl

-- where the leaves start
abbrev pub leaf_start : ℕ → ℕ → ℕ → Leaf
leaf_start d k i = leaf_of (start BLAKE2b (parameters BLAKE2b degree d k i 0))
