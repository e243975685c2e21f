-- The leaves over the whole message, and the root over them, are the definitions' tree. For any family and any number of leaves.
-- Assumes nothing.
use mathlib.Core.Path.{◌≡◌, refl, sym, ap, ◌∙◌}
use mathlib.Core.Bool.{true}
use mathlib.Core.List.{List, [], ◌∷◌, ◌++◌, map, flat_map, foldl, append-nil, append_assoc}
use Prim.Native.Nat.{ℕ, zero, suc, ◌+◌, ◌*◌, ◌/◌, ◌≤◌, ◌<◌}
use native.Mathlib.Nat.{mul_comm, mul-pos, mul-add-div, not-suc-le-zero, suc-ne-zero}
use native.Mathlib.Omega.{arith}
use lib.Dec.{eqb}
use lib.ListN.{length, take, drop, length-append}
use lib.Seq.{drop-drop, drop_at, take_at}
use Rattle.definitions.specs.Words.{from, part, pad}
use Rattle.definitions.specs.Family.{Family}
use Rattle.definitions.specs.Hash.{start, keyed, calls, compress, state_bytes, untruncated}
use Rattle.definitions.specs.Tree.{share, parameters, leaf_data, leaf}
use Rattle.definitions.specs.Tree as tree
use Rattle.definitions.proofs.Lengths.{length_pad}
use Rattle.laws_blocks.specs.Chain.{through}
use Rattle.laws_blocks.specs.Blocks.{on_bytes, through_blocks}
use Rattle.laws_states.specs.Deal.{finished}
use Rattle.laws_states.specs.Leaves.{row_of, rooted, keyed_row, leaf_starts, root_start}
use Rattle.laws_blocks.proofs.Calls.{untruncated_through, share_calls_through}
use Rattle.laws_blocks.proofs.Sizes.{length_through}
use Rattle.laws_states.proofs.Deals.{each_map}

-- a root's state has eight words
pub length_rooted : (f : Family) (h : List ℕ) (ls : List (List ℕ)) → length (rooted f h ls) ≡ 8 * f.ww
unfolding rooted
length_rooted f h ls = length_through f f.bb h 0 true true (flat_map (state_bytes f) ls)

-- what is flat of values that agree
flat_same : {A C : Type 0} (u : ℕ → List C) (b : A → List C) (c : ℕ → A) (i k : ℕ) → ((j : ℕ) → j < i + k → u j ≡ b (c j)) → flat_map u (from i k) ≡ flat_map b (map c (from i k))
unfolding flat_map
flat_same u b c i zero h = refl
flat_same u b c i (suc k) h = rw (h i (omega arith), flat_same u b c (suc i) k (λ j g. h j (omega arith)))

flat_later : {C : Type 0} (u v : ℕ → List C) (i k : ℕ) → ((j : ℕ) → u (suc j) ≡ v j) → flat_map u (from (suc i) k) ≡ flat_map v (from i k)
unfolding flat_map
flat_later u v i zero h = refl
flat_later u v i (suc k) h = rw (h i, flat_later u v (suc i) k h)

-- the share of a row of equal blocks, and of what follows it
module _ (bb n : ℕ) (block : 0 < bb) (leaves : 0 < n) (b : List ℕ) (whole : length b ≡ bb) where
  pub length_row : (j : ℕ) → length (row_of j b) ≡ j * bb
  unfolding row_of
  length_row zero = omega arith
  length_row (suc j) = let e = length_row j in rw length-append (omega arith)

  block_of_row : (j i : ℕ) (m : List ℕ) → i < j → take bb (drop (i * bb) (row_of j b ++ m)) ≡ b
  unfolding row_of
  block_of_row zero i m g = absurd (not-suc-le-zero g)
  block_of_row (suc j) zero m g = let e : 0 * bb ≡ 0 = omega arith in rw (e, append_assoc b (row_of j b) m) (take_at b (row_of j b ++ m) bb whole)
  block_of_row (suc j) (suc i) m g =
      let e : suc i * bb ≡ bb + i * bb = omega arith in
      rw (e, append_assoc b (row_of j b) m, ← drop-drop (i * bb) bb (b ++ (row_of j b ++ m)), drop_at b (row_of j b ++ m) bb whole) (block_of_row j i m (omega arith))

  pub share_row : (m : List ℕ) (i : ℕ) → i < n → share bb n (row_of n b ++ m) i ≡ b ++ share bb n m i
  unfolding share flat_map
  share_row m i g =
      let st = bb * n in
      let some : 0 < st = mul-pos block leaves in
      let l : length (row_of n b ++ m) ≡ st * 1 + length m = length-append (row_of n b) m ∙ ap (λ (k : ℕ). k + length m) (length_row n ∙ mul_comm n bb ∙ omega arith) in
      let q : length (row_of n b ++ m) / st ≡ suc (length m / st) = rw l (mul-add-div some 1 (length m) ∙ omega arith) in
      let z : i + n * 0 ≡ i = omega arith in
      let first : part bb (row_of n b ++ m) (i + n * 0) ≡ b = rw z (block_of_row n i m g) in
      rw (q, first, flat_later (λ k. part bb (row_of n b ++ m) (i + n * k)) (λ k. part bb m (i + n * k)) 0 (suc (length m / st)) later)
    where
      later : (k : ℕ) → part bb (row_of n b ++ m) (i + n * suc k) ≡ part bb m (i + n * k)
      later k =
          let e : (i + n * suc k) * bb ≡ n * bb + (i + n * k) * bb = omega arith in
          rw (e, ← drop-drop ((i + n * k) * bb) (n * bb) (row_of n b ++ m), drop_at (row_of n b) m (n * bb) (length_row n))

module _ (f : Family) (some : 0 < f.bb) (n : ℕ) (leaves : 0 < n) where
  open f use {bb}

  -- what leaf i is dealt of the row of key blocks and the message is what it hashes
  pub share_keyed : (key m : List ℕ) (i : ℕ) → i < n → length key ≤ bb → share bb n (keyed_row f n key m) i ≡ leaf_data f n key m i
  unfolding keyed_row leaf_data keyed
  share_keyed [] m i g h = refl
  share_keyed (k ∷ key) m i g h = share_row bb n some leaves (pad bb (k ∷ key)) (length_pad bb (k ∷ key) h) m i g

  module _ (d : ℕ) (key m : List ℕ) (short : length key ≤ bb) where
    -- leaf i, at the end
    unfoldable ended_leaf : ℕ → List ℕ
    ended_leaf i = through_blocks f (n * bb) (start f (parameters f n d (length key) i 0)) 0 true (eqb (suc i) n) (drop (i * bb) (keyed_row f n key m))

    leaves_end : finished bb (on_bytes f) n (leaf_starts f n d (length key)) 0 (keyed_row f n key m) ≡ map ended_leaf (from 0 n)
    unfolding finished leaf_starts ended_leaf
    leaves_end =
        each_map (λ i w. through bb (on_bytes f) (n * bb) w 0 true (eqb (suc i) n) (drop (i * bb) (keyed_row f n key m)))
        (λ i. start f (parameters f n d (length key) i 0)) 0 n

    leaf_is : (i : ℕ) → i < 0 + n → leaf f n d key m i ≡ state_bytes f (ended_leaf i)
    unfolding leaf untruncated ended_leaf
    leaf_is i h =
        let p = parameters f n d (length key) i 0 in
        ap (λ (x : List ℕ). state_bytes f (foldl (compress f) (start f p) (calls f (eqb (suc i) n) x))) (sym (share_keyed key m i (omega arith) short))
        ∙ ap (state_bytes f) (share_calls_through f some n leaves (start f p) (eqb (suc i) n) (keyed_row f n key m) i)

    -- THE law of the tree: the leaves over the whole message, and the root
    pub rooted_is_tree : take d (rooted f (root_start f n d (length key)) (finished bb (on_bytes f) n (leaf_starts f n d (length key)) 0 (keyed_row f n key m))) ≡ tree.parallel f n d key m
    unfolding rooted root_start tree.parallel
    rooted_is_tree =
        let bytes : flat_map (state_bytes f) (finished bb (on_bytes f) n (leaf_starts f n d (length key)) 0 (keyed_row f n key m)) ≡ flat_map (leaf f n d key m) (from 0 n) =
        ap (flat_map (state_bytes f)) leaves_end ∙ sym (flat_same (leaf f n d key m) (state_bytes f) ended_leaf 0 n leaf_is) in
        ap (λ (x : List ℕ). take d (state_bytes f (through_blocks f bb (start f (parameters f n d (length key) 0 1)) 0 true true x))) bytes
        ∙ ap (take d) (sym (untruncated_through f some (parameters f n d (length key) 0 1) true (flat_map (leaf f n d key m) (from 0 n))))

  -- the row of key blocks, where there is a key and where there is none
  pub row_some : (key : List ℕ) → 0 < length key → keyed_row f n key [] ≡ row_of n (pad bb key)
  unfolding keyed_row
  row_some [] h = absurd (not-suc-le-zero h)
  row_some (k ∷ key) h = append-nil (row_of n (pad bb (k ∷ key)))

  pub row_none : (key m : List ℕ) → length key ≡ 0 → keyed_row f n key m ≡ m
  unfolding keyed_row
  row_none [] m h = refl
  row_none (k ∷ key) m h = absurd (suc-ne-zero (length key) h)

  pub row_front : (key m : List ℕ) → keyed_row f n key [] ++ m ≡ keyed_row f n key m
  unfolding keyed_row
  row_front [] m = refl
  row_front (k ∷ key) m = rw append-nil
