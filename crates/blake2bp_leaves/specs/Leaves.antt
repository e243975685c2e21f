-- A leaf as the code holds it: the definitions' compression on its words, and the bytes of its state.
-- Assumes nothing.
use Rattle.std.specs.Prelude.{Bool, List, ℕ}
use Rattle.definitions.specs.Family.{BLAKE2b}
use Rattle.definitions.specs.Hash.{state_bytes}
use Rattle.laws_blocks.specs.Blocks.{on_bytes}
use Rattle.blake2bp_leaves.specs.declared.leaves.Leaf.{Leaf}

abbrev pub leaf_of : List ℕ → Leaf
leaf_of w = record { words = w }

abbrev pub words_of : Leaf → List ℕ
words_of l = l.words

abbrev pub state_of : Leaf → List ℕ
state_of l = state_bytes BLAKE2b l.words

-- leaf, block, count, last block, last node
unfoldable pub on_leaf : Leaf → List ℕ → ℕ → Bool → Bool → Leaf
on_leaf l b t last node = leaf_of (on_bytes BLAKE2b l.words b t last node)
