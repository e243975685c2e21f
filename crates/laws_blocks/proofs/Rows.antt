-- How many rows of st bytes may go: facts on numbers.
-- Assumes nothing.
use mathlib.Core.Path.{◌≡◌, sym, ap, ◌∙◌}
use Prim.Native.Nat.{ℕ, suc, ◌+◌, ◌-◌, ◌*◌, ◌/◌, ◌≤◌, ◌<◌}
use native.Mathlib.Nat.{le-div_iff_mul-le, mul-add-div, lt-mul-div-succ, mul-div-le, mul-le-mul_left, le_trans, div-eq_of_lt, mul_comm, le_refl, sub-zero, div-eq_of_lt-le}
use native.Mathlib.Omega.{arith}
use Rattle.laws_blocks.specs.Chain.{spare}

module _ (st need : ℕ) (some : 0 < st) where
  -- k rows may go exactly if they leave more than `need`
  pub le_spare : (n k : ℕ) → st * k + need < n → k ≤ spare st need n
  unfolding spare
  le_spare n k h = (le-div_iff_mul-le some).1 (rw (mul_comm k st) (omega arith))

  pub spare_fits : (n k : ℕ) → k ≤ spare st need n → st * k ≤ n - suc need
  unfolding spare
  spare_fits n k h = le_trans (mul-le-mul_left st h) (mul-div-le (n - suc need) st)

  pub spare_below : (n k : ℕ) → k ≤ spare st need n → st * k ≤ n
  spare_below n k h = omega (arith, spare_fits n k h)

  -- what stays when all go that may
  pub spare_left : (n : ℕ) → n - st * spare st need n ≤ need + st
  unfolding spare
  spare_left n = omega (arith, lt-mul-div-succ (n - suc need) some)

  -- some rows first, then all that may
  pub spare_late : (n k : ℕ) → k ≤ spare st need n → k + spare st need (n - st * k) ≡ spare st need n
  unfolding spare
  spare_late n k h =
      let e : n - suc need ≡ st * k + (n - st * k - suc need) = omega (arith, spare_fits n k h) in
      sym (ap (λ x. x / st) e ∙ mul-add-div some k (n - st * k - suc need))

  pub spare_none : (n : ℕ) → n ≤ need + st → spare st need n ≡ 0
  unfolding spare
  spare_none n h = div-eq_of_lt (omega arith)

  pub spare_is : (n k : ℕ) → st * k + need < n → n ≤ st * k + need + st → spare st need n ≡ k
  unfolding spare
  spare_is n k h g = div-eq_of_lt-le st (rw (mul_comm k st) (omega arith)) (rw (mul_comm (k + 1) st) (omega arith))

  -- where fewer have to stay, of `gap` bytes fewer, at least as many may go
  pub spare_less : (n m fewer gap : ℕ) → n ≤ m → fewer + gap ≤ need → spare st need n ≤ spare st fewer (m - gap)
  spare_less n m fewer gap g h =
      let f = spare_fits n (spare st need n) (le_refl (spare st need n)) in
      unfold spare in (le-div_iff_mul-le some).1 (rw (mul_comm (spare st need n) st) (omega arith))

  pub spare_more : (n m : ℕ) → n ≤ m → spare st need n ≤ spare st need m
  spare_more n m h = rw sub-zero at (spare_less n m need 0 h (omega arith))
