-- Bytes stored in a buffer: over its front, behind others over zeros, and a buffer of nothing but zeros.
-- Assumes nothing.
use mathlib.Core.Path.{◌≡◌, refl, ap, ◌∙◌}
use mathlib.Core.List.{List, [], ◌∷◌, ◌++◌}
use Prim.Native.Nat.{ℕ, zero, suc, ◌+◌, ◌-◌, ◌<◌}
use native.Mathlib.Nat.{zero-add, sub-zero, zero-sub}
use native.Mathlib.Omega.{arith}
use lib.ListN.{length, drop, replicate, length-append}
use lib.Seq.{paste, take-length, take-append_seam, drop-append-add}
use Rattle.definitions.specs.Words.{◌!◌, pad}
use Rattle.laws_words.specs.Bytes.{zeros, over}

pub drop_zeros : (n k : ℕ) → drop {A = ℕ} k (replicate n 0) ≡ replicate (n - k) 0
drop_zeros n zero = rw sub-zero
drop_zeros zero (suc k) = rw zero-sub
drop_zeros (suc n) (suc k) = let e : suc n - suc k ≡ n - k = omega arith in rw e (drop_zeros n k)

-- a list that is zero at each place
pub all_zero : (l : List ℕ) → ((k : ℕ) → k < length l → l ! k ≡ 0) → l ≡ zeros (length l)
unfolding zeros
all_zero [] h = refl
all_zero (x ∷ l) h = λ i. h 0 (omega arith) i ∷ all_zero l (λ k b. h (suc k) (omega arith)) i

-- behind x, b
pub paste_padded : (n : ℕ) (x b : List ℕ) {at : ℕ} → at ≡ length x → paste (pad n x) at b (length b) ≡ pad n (x ++ b)
unfolding pad
paste_padded n x b {at} e =
    let z : List ℕ = replicate (n - length x) 0 in
    let l = length-append x b in
    let k : n - length x - length b ≡ n - length (x ++ b) = omega arith in
    let rest : drop (length x + length b) (x ++ z) ≡ replicate (n - length (x ++ b)) 0 =
    drop-append-add x z (length b) ∙ drop_zeros (n - length x) (length b) ∙ ap (λ (m : ℕ). replicate m 0) k in
    rw (e, take-append_seam x z, take-length b, rest)

-- at the front of nothing but zeros
paste_zeros : (n : ℕ) (b : List ℕ) → paste (zeros n) 0 b (length b) ≡ pad n b
unfolding pad zeros
paste_zeros n b = rw (take-length b, zero-add (length b)) (ap (λ (z : List ℕ). b ++ z) (drop_zeros n (length b)))

pub stored_padded : (n : ℕ) (b : List ℕ) {z r : List ℕ} → z ≡ zeros n → r ≡ paste z 0 b (length b) → r ≡ pad n b
stored_padded n b e f = f ∙ ap (λ (l : List ℕ). paste l 0 b (length b)) e ∙ paste_zeros n b

pub pad_none : (n : ℕ) → pad n [] ≡ zeros n
unfolding pad zeros
pad_none n = rw sub-zero

-- at the front of what was there
pub paste_front : (out b : List ℕ) → paste out 0 b (length b) ≡ over b out
unfolding over
paste_front out b = rw (take-length b, zero-add (length b))
