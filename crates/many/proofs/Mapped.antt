-- The laws of a list whose first k elements were changed by a function, each at its place.
-- Assumes nothing.
use mathlib.Core.Path.{◌≡◌, refl, ap}
use mathlib.Core.List.{List, [], ◌∷◌}
use Prim.Native.Nat.{ℕ, zero, suc, ◌<◌, ◌≤◌}
use native.Mathlib.Nat.{not-suc-le-zero, le_of_suc-le-suc}
use lib.ListN.{length, get_or, set}
use Rattle.many.specs.Batch.{mapped}

module _ {A : Type 0} (f : A → A) where
  pub length_mapped : (k : ℕ) (l : List A) → length (mapped f k l) ≡ length l
  length_mapped zero l = refl
  length_mapped (suc k) [] = refl
  length_mapped (suc k) (x ∷ l) = ap suc (length_mapped k l)

  pub at_place : (k : ℕ) (l : List A) (i : ℕ) (z : A) → i < k → i < length l → get_or (mapped f k l) i z ≡ f (get_or l i z)
  at_place zero l i z h g = absurd (not-suc-le-zero h)
  at_place (suc k) [] i z h g = absurd (not-suc-le-zero g)
  at_place (suc k) (x ∷ l) zero z h g = refl
  at_place (suc k) (x ∷ l) (suc i) z h g = at_place k l i z (le_of_suc-le-suc h) (le_of_suc-le-suc g)

  pub behind : (k : ℕ) (l : List A) (i : ℕ) (z : A) → k ≤ i → get_or (mapped f k l) i z ≡ get_or l i z
  behind zero l i z h = refl
  behind (suc k) [] i z h = refl
  behind (suc k) (x ∷ l) zero z h = absurd (not-suc-le-zero h)
  behind (suc k) (x ∷ l) (suc i) z h = behind k l i z (le_of_suc-le-suc h)

  -- an element that the function leaves as it is
  pub unmoved : (k : ℕ) (l : List A) (i : ℕ) (z : A) → f (get_or l i z) ≡ get_or l i z → get_or (mapped f k l) i z ≡ get_or l i z
  unmoved zero l i z e = refl
  unmoved (suc k) [] i z e = refl
  unmoved (suc k) (x ∷ l) zero z e = e
  unmoved (suc k) (x ∷ l) (suc i) z e = unmoved k l i z e

  pub one_more : (k : ℕ) (l : List A) (z : A) → k < length l → set (mapped f k l) k (f (get_or l k z)) ≡ mapped f (suc k) l
  one_more k [] z h = absurd (not-suc-le-zero h)
  one_more zero (x ∷ l) z h = refl
  one_more (suc k) (x ∷ l) z h = ap (λ (t : List A). f x ∷ t) (one_more k l z (le_of_suc-le-suc h))

  -- then a second function, which leaves what the first one made
  pub mapped_again : (g : A → A) → ((x : A) → g (f x) ≡ f x) → (k : ℕ) (l : List A) → mapped g k (mapped f k l) ≡ mapped f k l
  mapped_again g same zero l = refl
  mapped_again g same (suc k) [] = refl
  mapped_again g same (suc k) (x ∷ l) = λ i. same x i ∷ mapped_again g same k l i
