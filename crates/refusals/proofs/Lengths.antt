-- The lengths that a digest has, as bounds.
-- Assumes nothing.
use mathlib.Core.Path.{◌≡◌}
use mathlib.Core.Bool.{true, and-eq-true_iff}
use Prim.Native.Nat.{ℕ, ◌≤◌}
use borrow.Author.Tests.{le-leb, leb-true}
use lib.Dec.{leb}
use Rattle.refusals.specs.Numbers.{is_length}

module _ (most n : ℕ) where
  pub length_is : 1 ≤ n → n ≤ most → is_length most n ≡ true
  length_is a b = rw (le-leb 1 n a, le-leb n most b)

  pub length_bounds : is_length most n ≡ true → (1 ≤ n) × (n ≤ most)
  length_bounds e = let p = (and-eq-true_iff (leb 1 n) (leb n most)).0 e in (leb-true 1 n p.0, leb-true n most p.1)
