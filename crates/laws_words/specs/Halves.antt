-- F in the pieces that code has: a round's two halves on ordered message words, the sixteen words at the start, the fold at the end.
-- Assumes nothing; proofs/Compression.antt proves that they make F.
use Rattle.std.specs.Prelude.{List, [], ◌∷◌, ◌++◌, map, ℕ, ◌+◌}
use Rattle.definitions.specs.Words.{◌⊕◌, ◌!◌, from}
use Rattle.definitions.specs.Family.{Family}
use Rattle.definitions.specs.Compress.{G}

-- the message words in the order of the row s of SIGMA
unfoldable pub ordered : List ℕ → List ℕ → List ℕ
ordered m s = map (λ i. m ! (s ! i)) (from 0 16)

-- h[i] ^ v[i] ^ v[i + 8]
unfoldable pub fold_halves : List ℕ → List ℕ → List ℕ
fold_halves h v = map (λ i. h ! i ⊕ v ! i ⊕ v ! (i + 8)) (from 0 8)

module _ (f : Family) where
  open f use {IV}

  -- G on four words
  abbrev pub mixed : ℕ → ℕ → ℕ → ℕ → ℕ → ℕ → List ℕ
  mixed a b c d x y = G f (a ∷ b ∷ c ∷ d ∷ []) 0 1 2 3 x y

  -- on the ordered message words x: the columns of v
  unfoldable pub columns_of : List ℕ → List ℕ → List ℕ
  columns_of x v0 =
      let v1 : List ℕ = G f v0 0 4 8 12 (x ! 0) (x ! 1) in
      let v2 : List ℕ = G f v1 1 5 9 13 (x ! 2) (x ! 3) in
      let v3 : List ℕ = G f v2 2 6 10 14 (x ! 4) (x ! 5) in
      G f v3 3 7 11 15 (x ! 6) (x ! 7)

  -- and its diagonals
  unfoldable pub diagonals_of : List ℕ → List ℕ → List ℕ
  diagonals_of x v0 =
      let v1 : List ℕ = G f v0 0 5 10 15 (x ! 8) (x ! 9) in
      let v2 : List ℕ = G f v1 1 6 11 12 (x ! 10) (x ! 11) in
      let v3 : List ℕ = G f v2 2 7 8 13 (x ! 12) (x ! 13) in
      G f v3 3 4 9 14 (x ! 14) (x ! 15)

  -- the sixteen words before the first round: the state, then IV with the two words of the count and the two flag words
  unfoldable pub initial : List ℕ → ℕ → ℕ → ℕ → ℕ → List ℕ
  initial h lo hi f0 f1 =
      h ++ (IV ! 0 ∷ IV ! 1 ∷ IV ! 2 ∷ IV ! 3 ∷ lo ⊕ IV ! 4 ∷ hi ⊕ IV ! 5 ∷ f0 ⊕ IV ! 6 ∷ f1 ⊕ IV ! 7 ∷ [])
