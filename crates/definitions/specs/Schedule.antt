-- What an order of 0 to 15 is. proofs/Schedule.antt computes that each row of SIGMA is one.
-- Assumes nothing.
use Rattle.std.specs.Prelude.{◌≡◌, cond, List, [], ◌∷◌, ℕ, ◌+◌, ◌<◌, eqb, length}
use Rattle.definitions.specs.Words.{◌!◌}

-- how often k stands in s
unfoldable pub times : ℕ → List ℕ → ℕ
times k [] = 0
times k (x ∷ s) = cond (eqb k x) 1 0 + times k s

-- sixteen numbers below 16, each of them once
pub record Order (s : List ℕ) : Type 0 where
  pub sixteen : length s ≡ 16
  pub below : (i : ℕ) → s ! i < 16
  pub once : (k : ℕ) → k < 16 → times k s ≡ 1
