-- A rotation as two shifts and an or, at any width.
-- Assumes nothing.
use mathlib.Core.Path.{◌≡◌, ap, ◌∙◌, subst}
use Prim.Native.Nat.{ℕ, ◌+◌, ◌*◌, ◌/◌, ◌%◌, ◌^◌, ◌<◌, ◌-◌}
use native.Mathlib.Nat.{add-zero, add_comm, mul-mod_left}
use lib.Pow.{mod-pow-add, shl-shr, shr_lt}
use native.Mathlib.Omega.{arith}
use Rattle.definitions.specs.Words.{rotr}
use lib.Bits.{bit_or, or_shifted_r}

-- x << j at words of k + j bits keeps x's k low bits
shl_low : (k j x : ℕ) → (x * 2 ^ j) % 2 ^ (k + j) ≡ (x % 2 ^ k) * 2 ^ j
shl_low k j x =
    mod-pow-add (x * 2 ^ j) k j
    ∙ ap (λ (n : ℕ). (n % 2 ^ k) * 2 ^ j + (x * 2 ^ j) % 2 ^ j) (shl-shr x j)
    ∙ ap (λ (n : ℕ). (x % 2 ^ k) * 2 ^ j + n) (mul-mod_left x (2 ^ j))
    ∙ add-zero ((x % 2 ^ k) * 2 ^ j)

rot_or : (k j : ℕ) {x : ℕ} → x < 2 ^ (j + k) → bit_or (x / 2 ^ k) ((x * 2 ^ j) % 2 ^ (k + j)) ≡ x / 2 ^ k + (x % 2 ^ k) * 2 ^ j
rot_or k j {x} h =
    ap (bit_or (x / 2 ^ k)) (shl_low k j x)
    ∙ or_shifted_r (x % 2 ^ k) j (x / 2 ^ k) (shr_lt j k h)
    ∙ add_comm ((x % 2 ^ k) * 2 ^ j) (x / 2 ^ k)

-- (x >> k) | (x << (w - k)) at words of w bits
pub rot_is : (w k : ℕ) {x : ℕ} → k < w → x < 2 ^ w → bit_or (x / 2 ^ k) ((x * 2 ^ (w - k)) % 2 ^ w) ≡ rotr w k x
unfolding rotr
rot_is w k {x} h b =
    let e : w ≡ k + (w - k) = omega arith in
    let f : w ≡ (w - k) + k = omega arith in
    ap (λ (n : ℕ). bit_or (x / 2 ^ k) ((x * 2 ^ (w - k)) % 2 ^ n)) e
    ∙ rot_or k (w - k) (subst (λ (n : ℕ). x < 2 ^ n) f b)
