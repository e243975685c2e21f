-- A turn of the loop over the bytes of a digest: writing one in hexadecimal.
-- Assumes nothing.
use mathlib.Core.Path.{◌≡◌, refl, sym, ap, ◌∙◌}
use mathlib.Core.List.{List, [], ◌∷◌, ◌++◌, flat_map}
use Prim.Native.Nat.{ℕ, suc, ◌+◌, ◌*◌, ◌/◌, ◌%◌, ◌<◌, ◌≤◌}
use native.Mathlib.Numerals.{add-one}
use native.Mathlib.Omega.{arith}
use lib.ListN.{length, take, drop, set, length-append}
use lib.Seq.{drop-cons, set_at, append_snoc, take-suc, length-take-le}
use Rattle.definitions.specs.Words.{◌!◌}
use Rattle.laws_words.specs.Bytes.{over}
use Rattle.hash.specs.Hash.{digit_of, hex_of}
use Rattle.hash.proofs.Digests.{length_hex}

one_more : (s : List ℕ) (i : ℕ) → i < length s → take (i + 1) s ≡ take i s ++ (s ! i ∷ [])
one_more s i h = ap (λ (k : ℕ). take k s) (add-one i) ∙ take-suc s i 0 h

-- one byte more of a text over an output
over_more : (s : List ℕ) (x : ℕ) (out : List ℕ) (i : ℕ) → length s ≡ i → i < length out → set (over s out) i x ≡ over (s ++ (x ∷ [])) out
unfolding over
over_more s x out i e h =
    let n = length s in
    ap (λ (l : List ℕ). set (s ++ l) i x) (drop-cons out n 0 (omega arith))
    ∙ set_at s (out ! n) (drop (suc n) out) x i e
    ∙ sym (append_snoc s x (drop (suc n) out))
    ∙ ap (λ (k : ℕ). s ++ (x ∷ []) ++ drop k out) (sym (length-append s (x ∷ []) ∙ add-one n))

hex_snoc : (s : List ℕ) (x : ℕ) → hex_of (s ++ (x ∷ [])) ≡ hex_of s ++ (digit_of (x / 16) ∷ []) ++ (digit_of (x % 16) ∷ [])
unfolding hex_of flat_map
hex_snoc [] x = refl
hex_snoc (y ∷ s) x = ap (λ (l : List ℕ). digit_of (y / 16) ∷ digit_of (y % 16) ∷ l) (hex_snoc s x)

-- the two digits of one byte more
pub hex_more : (s out : List ℕ) (i : ℕ) → i < length s → 2 * length s ≤ length out
    → set (set (over (hex_of (take i s)) out) (2 * i) (digit_of (s ! i / 16))) (2 * i + 1) (digit_of (s ! i % 16)) ≡ over (hex_of (take (i + 1) s)) out
hex_more s out i h g =
    let n : length (hex_of (take i s)) ≡ 2 * i = length_hex (take i s) ∙ ap (λ (k : ℕ). 2 * k) (length-take-le i s (omega arith)) in
    let hi = digit_of (s ! i / 16) in
    let lo = digit_of (s ! i % 16) in
    let m : length (hex_of (take i s) ++ (hi ∷ [])) ≡ 2 * i + 1 = length-append (hex_of (take i s)) (hi ∷ []) ∙ ap (λ (k : ℕ). k + 1) n in
    ap (λ (l : List ℕ). set l (2 * i + 1) lo) (over_more (hex_of (take i s)) hi out (2 * i) n (omega arith))
    ∙ over_more (hex_of (take i s) ++ (hi ∷ [])) lo out (2 * i + 1) m (omega arith)
    ∙ ap (λ (l : List ℕ). over l out) (sym (ap hex_of (one_more s i h) ∙ hex_snoc (take i s) (s ! i)))
