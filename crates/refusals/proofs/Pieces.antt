-- When a piece lies inside its data, as a test and as two inequalities.
-- Assumes nothing.
use mathlib.Core.Path.{◌≡◌}
use mathlib.Core.Bool.{true, false, and-eq-true_iff}
use Prim.Native.Nat.{ℕ, ◌+◌, ◌-◌, ◌<◌, ◌≤◌}
use native.Mathlib.Omega.{arith}
use borrow.Author.Tests.{lt-ltb, le-ltb, ltb-true, leb-true}
use lib.Dec.{ltb, leb}
use Rattle.refusals.specs.Numbers.{piece_ok}

module _ (start length n : ℕ) where
  pub starts_past : n ≤ start → false ≡ piece_ok start length n
  unfolding piece_ok
  starts_past h = rw (le-ltb start n h)

  pub starts_inside : start < n → leb length (n - start) ≡ piece_ok start length n
  unfolding piece_ok
  starts_inside h = rw (lt-ltb start n h)

  -- a piece that passed lies inside
  pub inside : piece_ok start length n ≡ true → start + length ≤ n
  unfolding piece_ok
  inside e =
      let p = (and-eq-true_iff (ltb start n) (leb length (n - start))).0 e in
      let l = leb-true length (n - start) p.1 in
      let s = ltb-true start n p.0 in
      omega arith
