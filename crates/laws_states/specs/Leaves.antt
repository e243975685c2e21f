-- The leaves and the root of the definitions' tree, for b and s alike: where they start, what they take, and the root's bytes.
-- Assumes nothing.
use Rattle.std.specs.Prelude.{true, ℕ, zero, suc}
use mathlib.Core.List.{List, [], ◌∷◌, ◌++◌, map, flat_map}
use Rattle.definitions.specs.Words.{from, pad}
use Rattle.definitions.specs.Family.{Family}
use Rattle.definitions.specs.Hash.{start, state_bytes}
use Rattle.definitions.specs.Tree.{parameters}
use Rattle.laws_blocks.specs.Blocks.{through_blocks}

-- n equal blocks
unfoldable pub row_of : ℕ → List ℕ → List ℕ
row_of zero b = []
row_of (suc n) b = b ++ row_of n b

module _ (f : Family) where
  -- the bytes of a root that starts from the words h, over the leaves' words: it takes their whole states, and is a last node
  unfoldable pub rooted : List ℕ → List (List ℕ) → List ℕ
  rooted h ls = state_bytes f (through_blocks f f.bb h 0 true true (flat_map (state_bytes f) ls))

  module _ (n : ℕ) where
    -- what n leaves are dealt: the message, behind a row of key blocks where there is a key
    unfoldable pub keyed_row : List ℕ → List ℕ → List ℕ
    keyed_row [] m = m
    keyed_row (k ∷ key) m = row_of n (pad f.bb (k ∷ key)) ++ m

    -- the words that the leaves start from, for a digest of d bytes and a key of k
    unfoldable pub leaf_starts : ℕ → ℕ → List (List ℕ)
    leaf_starts d k = map (λ i. start f (parameters f n d k i 0)) (from 0 n)

    -- and the root
    unfoldable pub root_start : ℕ → ℕ → List ℕ
    root_start d k = start f (parameters f n d k 0 1)
