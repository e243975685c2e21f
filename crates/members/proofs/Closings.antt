-- The two kinds of member, over any family: one hash, and n leaves under a root. Each may close late, and closes to the definitions' digest.
-- Assumes nothing.
use mathlib.Core.Path.{◌≡◌, refl, sym, ap, ◌∙◌}
use mathlib.Core.Bool.{Bool, true, false, cond}
use mathlib.Core.List.{List, [], ◌++◌, map}
use Prim.Native.Nat.{ℕ, ◌*◌, ◌<◌, ◌≤◌}
use native.Mathlib.Omega.{arith}
use borrow.Author.Tests.{leb-true, leb-false}
use lib.Dec.{leb}
use lib.ListN.{length, take}
use Rattle.definitions.specs.Words.{pad}
use Rattle.definitions.specs.Family.{Family}
use Rattle.definitions.specs.Hash.{Parameters, start, state_bytes, untruncated}
use Rattle.definitions.specs.Tree as tree
use Rattle.definitions.proofs.Lengths.{length_pad}
use Rattle.laws_blocks.specs.Blocks.{on_bytes, through_blocks}
use Rattle.laws_states.specs.Buffer.{serial}
use Rattle.laws_states.specs.Deal.{parallel, finished}
use Rattle.laws_states.specs.Leaves.{rooted, keyed_row, leaf_starts, root_start}
use Rattle.laws_states.proofs.Buffers.{Late}
use Rattle.laws_blocks.proofs.Calls.{untruncated_through}
use Rattle.laws_states.proofs.Deals.{parallel_late}
use Rattle.laws_states.proofs.Images.{finished_image}
use Rattle.laws_states.proofs.Serial.{serial_late}
use Rattle.laws_states.proofs.Trees.{length_row, row_some, row_none, row_front, rooted_is_tree}

module _ (f : Family) (some : 0 < f.bb) where
  open f use {bb}

  -- one hash: the digest length and the flag of the last node
  abbrev pub one_closed : ℕ → Bool → List ℕ → ℕ → List ℕ → List ℕ
  one_closed d node w t x = take d (state_bytes f (through_blocks f bb w t true node x))

  pub one_late : (d : ℕ) (node : Bool) → Late (serial bb (on_bytes f)) (one_closed d node)
  one_late d node = record { late = λ l t x k h. ap (λ (w : List ℕ). take d (state_bytes f w)) ((serial_late bb (on_bytes f) some true node).late l t x k h) }

  pub one_digest : (p : Parameters) (d : ℕ) (node : Bool) (x : List ℕ) → one_closed d node (start f p) 0 x ≡ take d (untruncated f p node x)
  one_digest p d node x = ap (take d) (sym (untruncated_through f some p node x))

  -- n leaves: W is what holds a leaf's words, and F the compression on it
  module _ (n : ℕ) (leaves : 0 < n) where
    -- a key of k bytes
    pub length_key_row : (key : List ℕ) (k : ℕ) → length key ≡ k → length key ≤ bb → length (keyed_row f n key []) ≡ cond (leb 1 k) (n * bb) 0
    length_key_row key k e short = split (leb 1 k) refl
      where
        split : (b : Bool) → leb 1 k ≡ b → length (keyed_row f n key []) ≡ cond b (n * bb) 0
        split true h =
            let some_key = leb-true 1 k h in
            ap length (row_some f some n leaves key (omega arith)) ∙ length_row bb n some leaves (pad bb key) (length_pad bb key short) n
        split false h = let z = leb-false 1 k h in ap length (row_none f some n leaves key [] (omega arith))

    module _ {W : Type 0} (words : W → List ℕ) (F : W → List ℕ → ℕ → Bool → Bool → W)
        (same : (w : W) (b : List ℕ) (t : ℕ) (last node : Bool) → words (F w b t last node) ≡ on_bytes f (words w) b t last node) where
      abbrev pub tree_closed : ℕ → List ℕ → List W → ℕ → List ℕ → List ℕ
      tree_closed d root ws t x = take d (rooted f root (map words (finished bb F n ws t x)))

      pub tree_late : (d : ℕ) (root : List ℕ) → Late (parallel bb F n) (tree_closed d root)
      tree_late d root = record { late = λ l t x k h. ap (λ (ws : List W). take d (rooted f root (map words ws))) ((parallel_late bb F some n leaves).late l t x k h) }

      pub tree_digest : (d : ℕ) (key : List ℕ) (k : ℕ) → length key ≡ k → length key ≤ bb → (ws : List W) → map words ws ≡ leaf_starts f n d k → (m : List ℕ)
          → tree_closed d (root_start f n d k) ws 0 (keyed_row f n key [] ++ m) ≡ tree.parallel f n d key m
      tree_digest d key k e short ws starts m =
          let leaf_words = starts ∙ ap (leaf_starts f n d) (sym e) in
          (λ i. take d (rooted f (root_start f n d (sym e i)) (map words (finished bb F n ws 0 (keyed_row f n key [] ++ m)))))
          ∙ ap (λ (ls : List (List ℕ)). take d (rooted f (root_start f n d (length key)) ls))
          (finished_image words bb F (on_bytes f) same n ws 0 (keyed_row f n key [] ++ m) ∙ (λ i. finished bb (on_bytes f) n (leaf_words i) 0 (row_front f some n leaves key m i)))
          ∙ rooted_is_tree f some n leaves d key m short
