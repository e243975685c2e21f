-- Words and their bytes, and padding, at any width.
-- Assumes nothing.
use mathlib.Core.Path.{◌≡◌, refl, sym, ap, ◌∙◌}
use mathlib.Core.List.{List, [], ◌∷◌, ◌++◌, flat_map, append-nil}
use Prim.Native.Nat.{ℕ, zero, suc, ◌+◌, ◌-◌, ◌*◌, ◌/◌, ◌%◌, ◌^◌, ◌<◌}
use native.Mathlib.Nat.{zero-add, not-suc-le-zero, le_of_suc-le-suc, pow-suc, pow-le-pow_right, div-one, lt_of_lt_of_le, zero-mul, suc-mul, add_assoc, add_comm, sub_self, div-lt_iff_lt-mul}
use native.Mathlib.Numerals.{add-one}
use native.Mathlib.Omega.{arith}
use lib.Dec.{lit<}
use lib.Pow.{shr-shr}
use lib.ListN.{length, take, drop, replicate, length-append, length-replicate, get_or-append}
use lib.Seq.{drop-cons, get_or-append-add}
use Rattle.definitions.specs.Words.{◌!◌, word, bytes, part, pad}
use Rattle.definitions.specs.Family.{Family}
use Rattle.definitions.specs.Hash.{words}
use Rattle.laws_words.specs.Bytes.{zeros}
use Rattle.laws_words.proofs.Lists.{by_places}

-- a byte before others: the others' word times 256, and it
pub horner : (d : List ℕ) (n p q x : ℕ) → q ≡ suc p → p < length d → x ≡ word (take n (drop q d)) → x * 256 + d ! p ≡ word (take (n + 1) (drop p d))
horner d n p q x e h f =
    let g : word (take (suc n) (drop p d)) ≡ d ! p + 256 * word (take n (drop (suc p) d)) = ap (λ (l : List ℕ). word (take (suc n) l)) (drop-cons d p 0 h) in
    let k : x ≡ word (take n (drop (suc p) d)) = f ∙ ap (λ (m : ℕ). word (take n (drop m d))) e in
    rw (add-one, g, ← k) (omega arith)

pub horner_below : (n x b : ℕ) → x < 256 ^ n → b < 256 → x * 256 + b < 256 ^ (n + 1)
horner_below n x b h g = rw (add-one, pow-suc 256 n) (omega arith)

pub horner_fits : (k n x b : ℕ) → n < k → x < 256 ^ n → b < 256 → x * 256 + b < 256 ^ k
horner_fits k n x b l h g = lt_of_lt_of_le (horner_below n x b h g) (pow-le-pow_right {n = 256} (lit< tt) {i = n + 1} {j = k} (omega arith))

-- the bytes of a number stand for it
pub word_bytes : (n x : ℕ) → x < 256 ^ n → word (bytes n x) ≡ x
word_bytes zero x h = omega arith
word_bytes (suc n) x h =
    let b : x / 256 < 256 ^ n = (div-lt_iff_lt-mul (lit< tt)).1 (rw (pow-suc 256 n) at h) in
    rw (word_bytes n (x / 256) b) (omega arith)

-- a list of n words, each the word of its part
pub words_are : (f : Family) (n : ℕ) (d m : List ℕ) → length m ≡ n → ((k : ℕ) → k < n → m ! k ≡ word (part f.ww d k)) → m ≡ words f n d
unfolding words
words_are f n d m e h = by_places n m (λ k. word (part f.ww d k)) e h

pub bytes_at : (n x j : ℕ) → j < n → bytes n x ! j ≡ x / 2 ^ (8 * j) % 256
bytes_at zero x j h = absurd (not-suc-le-zero h)
bytes_at (suc n) x zero h = ap (λ (y : ℕ). y % 256) (sym (div-one x))
bytes_at (suc n) x (suc j) h =
    let e : 8 + 8 * j ≡ 8 * suc j = omega arith in
    bytes_at n (x / 256) j (le_of_suc-le-suc h)
    ∙ ap (λ (y : ℕ). y % 256) (shr-shr x 8 (8 * j) ∙ ap (λ (m : ℕ). x / 2 ^ m) e)

pub length_bytes : (n x : ℕ) → length (bytes n x) ≡ n
length_bytes zero x = refl
length_bytes (suc n) x = ap suc (length_bytes n (x / 256))

pub length_flat : (n : ℕ) (h : List ℕ) → length (flat_map (bytes n) h) ≡ length h * n
unfolding flat_map
length_flat n [] = sym (zero-mul n)
length_flat n (x ∷ h) = length-append (bytes n x) (flat_map (bytes n) h) ∙ (λ i. length_bytes n x i + length_flat n h i) ∙ add_comm n (length h * n) ∙ sym (suc-mul (length h) n)

-- the byte j of the word i
pub flat_at : (n : ℕ) (h : List ℕ) (i j : ℕ) → i < length h → j < n → flat_map (bytes n) h ! (i * n + j) ≡ bytes n (h ! i) ! j
unfolding flat_map
flat_at n [] i j b c = absurd (not-suc-le-zero b)
flat_at n (x ∷ h) zero j b c =
    ap (λ (k : ℕ). (bytes n x ++ flat_map (bytes n) h) ! k) (ap (λ (k : ℕ). k + j) (zero-mul n) ∙ zero-add j)
    ∙ get_or-append (bytes n x) (flat_map (bytes n) h) 0 j (rw length_bytes c)
flat_at n (x ∷ h) (suc i) j b c =
    let e : suc i * n + j ≡ length (bytes n x) + (i * n + j) =
    ap (λ (k : ℕ). k + j) (suc-mul i n ∙ add_comm (i * n) n) ∙ add_assoc n (i * n) j ∙ ap (λ (k : ℕ). k + (i * n + j)) (sym (length_bytes n x)) in
    ap (λ (k : ℕ). (bytes n x ++ flat_map (bytes n) h) ! k) e
    ∙ get_or-append-add (bytes n x) (flat_map (bytes n) h) (i * n + j) 0
    ∙ flat_at n h i j (le_of_suc-le-suc b) c

pub length_zeros : (n : ℕ) → length (zeros n) ≡ n
unfolding zeros
length_zeros n = length-replicate n 0

pub pad_whole : (n : ℕ) (b : List ℕ) → length b ≡ n → pad n b ≡ b
unfolding pad
pad_whole n b e = ap (λ (k : ℕ). b ++ replicate k 0) (ap (λ (k : ℕ). n - k) e ∙ sub_self n) ∙ append-nil b
