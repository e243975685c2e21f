-- Decimal is right: the digits read back as the number, and the first is no zero but that of 0; and they are the kit's digits.
-- Assumes nothing.
use mathlib.Core.Path.{◌≡◌, refl, sym, ap, subst, ◌∙◌}
use mathlib.Core.Bool.{Bool, true, false}
use mathlib.Core.List.{List, [], ◌∷◌, ◌++◌}
use Prim.Native.Nat.{ℕ, zero, suc, ◌+◌, ◌-◌, ◌*◌, ◌/◌, ◌%◌, ◌^◌, ◌<◌, ◌≤◌}
use native.Mathlib.Nat.{pow-suc, one-le-pow}
use native.Mathlib.Omega.{arith}
use borrow.Author.Tests.{lt-ltb, le-ltb, ltb-true, ltb-false}
use lib.Dec.{ltb}
use lib.ListN.{length, get_or, length-append, get_or-append}
use Rattle.io.specs.Digits.{last_digits, hex_digit_ascii, IsDigitCount}
use Rattle.report_text.specs.Lines.{digit_of, spelled, decimal}

-- the number that decimal digits stand for, the highest first
unfoldable pub value : ℕ → List ℕ → ℕ
value n [] = n
value n (d ∷ ds) = value (n * 10 + (d - digit_of 0)) ds

value_snoc : (n : ℕ) (s : List ℕ) (d : ℕ) → value n (s ++ (d ∷ [])) ≡ value n s * 10 + (d - 48)
unfolding value
value_snoc n [] d = refl
value_snoc n (x ∷ s) d = value_snoc (n * 10 + (x - digit_of 0)) s d

-- the two cases of the last digit
spelled_last : (k n : ℕ) → n < 10 → spelled (suc k) n ≡ digit_of n ∷ []
unfolding spelled
spelled_last k n h = rw (lt-ltb n 10 h)

spelled_more : (k n : ℕ) → 10 ≤ n → spelled (suc k) n ≡ spelled k (n / 10) ++ (digit_of (n % 10) ∷ [])
unfolding spelled
spelled_more k n h = rw (le-ltb n 10 h)

-- whatever holds of one digit, and of one digit more behind the digits of what is left, holds of all digits
by_digits : (P : ℕ → List ℕ → Type 0)
    → ((n : ℕ) → n < 10 → P n (digit_of n ∷ []))
    → ((n : ℕ) (s : List ℕ) → 10 ≤ n → P (n / 10) s → P n (s ++ (digit_of (n % 10) ∷ [])))
    → (k n : ℕ) → n < k → P n (spelled k n)
by_digits P one more zero n h = absurd (omega arith)
by_digits P one more (suc k) n h = split (ltb n 10) refl (by_digits P one more k (n / 10))
  where
    split : (q : Bool) → ltb n 10 ≡ q → (n / 10 < k → P (n / 10) (spelled k (n / 10))) → P n (spelled (suc k) n)
    split true e rest = let g = ltb-true n 10 e in rw (spelled_last k n g) (one n g)
    split false e rest = let g = ltb-false n 10 e in rw (spelled_more k n g) (more n (spelled k (n / 10)) g (rest (omega arith)))

pub reads_back : (n : ℕ) → value 0 (decimal n) ≡ n
unfolding value
reads_back n =
    by_digits (λ m s. value 0 s ≡ m) (λ m h. omega arith)
    (λ m s h e. value_snoc 0 s (digit_of (m % 10)) ∙ rw e (omega arith))
    (suc n) n (omega arith)

-- the first digit is a zero only of the number 0
pub no_leading_zero : (n : ℕ) → 0 < n → digit_of 0 < get_or (decimal n) 0 0
no_leading_zero n =
    (by_digits (λ m s. (0 < length s) × (0 < m → digit_of 0 < get_or s 0 0)) (λ m h. (omega arith, λ z. omega arith))
    (λ m s h e. (simp length-append (omega arith), λ z. rw (get_or-append s (digit_of (m % 10) ∷ []) 0 0 e.0) (e.1 (omega arith))))
    (suc n) n (omega arith)).1

-- the kit's digits, as few as hold the number
digits_spelled : (k f n : ℕ) → k ≤ f → n < 10 ^ suc k → (0 < k → 10 ^ k ≤ n) → last_digits 10 (suc k) n ≡ spelled (suc f) n
digits_spelled zero f n h below above =
    let one : n < 10 = below in
    rw (spelled_last f n one, lt-ltb (n % 10) 10 (omega arith)) (ap (λ (d : ℕ). digit_of d ∷ []) (omega arith))
digits_spelled (suc k) zero n h below above = absurd (omega arith)
digits_spelled (suc k) (suc f) n h below above =
    let p = pow-suc 10 (suc k) in
    let q = pow-suc 10 k in
    let some = one-le-pow k 10 (omega arith) in
    let a = above (omega arith) in
    let digit : hex_digit_ascii (n % 10) ≡ digit_of (n % 10) = rw (lt-ltb (n % 10) 10 (omega arith)) in
    let rest = digits_spelled k f (n / 10) (omega arith) (omega arith) (λ z. omega arith) in
    (λ i. rest i ++ (digit i ∷ [])) ∙ sym (spelled_more (suc f) n (omega arith))

below_power : (k : ℕ) → k < 10 ^ k
below_power zero = omega arith
below_power (suc k) = let p = pow-suc 10 k in let h = below_power k in omega arith

pub digits_decimal : (k n : ℕ) → IsDigitCount 10 1 n k → last_digits 10 k n ≡ decimal n
digits_decimal zero n h = absurd (omega (arith, h.0))
digits_decimal (suc k) n h =
    let above : 0 < k → 10 ^ k ≤ n = λ z. subst (λ (j : ℕ). 10 ^ j ≤ n) (omega arith) (h.2 (omega arith)) in
    digits_spelled k n n (few k above) h.1 above
  where
    few : (j : ℕ) → (0 < j → 10 ^ j ≤ n) → j ≤ n
    few zero a = omega arith
    few (suc j) a = let b = below_power (suc j) in let c = a (omega arith) in omega arith

-- a number below a power of ten has no more digits than that
short : (j k n : ℕ) → n < 10 ^ suc j → length (spelled k n) ≤ suc j
unfolding spelled
short j zero n h = omega arith
short j (suc k) n h = split (ltb n 10) j refl h (λ i. short i k (n / 10))
  where
    split : (q : Bool) (i : ℕ) → ltb n 10 ≡ q → n < 10 ^ suc i → ((z : ℕ) → n / 10 < 10 ^ suc z → length (spelled k (n / 10)) ≤ suc z) → length (spelled (suc k) n) ≤ suc i
    split true i e h rest = rw (spelled_last k n (ltb-true n 10 e)) (omega arith)
    split false zero e h rest = let few : n < 10 = h in absurd (omega (arith, ltb-false n 10 e))
    split false (suc i) e h rest =
        let p = pow-suc 10 (suc i) in
        let r = rest i (omega arith) in
        rw (spelled_more k n (ltb-false n 10 e)) (simp length-append (omega arith))

pub at_most_twenty : (n : ℕ) → n < 2 ^ 64 → length (decimal n) ≤ 20
at_most_twenty n h = let b : n < 10 ^ 20 = omega arith in short 19 (suc n) n b
