-- The laws of digests: their range, comparison and hexadecimal, and each answer case by case but those on an output.
-- Assumes nothing.
use mathlib.Core.Path.{◌≡◌, refl, sym, ap, ◌∙◌}
use mathlib.Core.Bool.{Bool, true, false, and-eq-true_iff, false≢true, ◌&&◌}
use mathlib.Core.List.{List, [], ◌∷◌, flat_map}
use Prim.Native.Nat.{ℕ, ◌-◌, ◌*◌, ◌<◌, ◌≤◌}
use native.Mathlib.Omega.{arith}
use borrow.Author.Tests.{le-leb, lt-leb, eq-eqb, eqb-true}
use lib.Dec.{eqb}
use lib.Pointwise.{pointwise}
use lib.ListN.{length, take, drop, replicate}
use lib.Seq.{take-append_seam, length-take-le}
use Rattle.definitions.specs.Words.{pad}
use Rattle.laws_words.specs.Bytes.{over}
use Rattle.laws_words.proofs.Bytes.{pad_whole}
use Rattle.refusals.specs.Numbers.{accepted, digest_length}
use Rattle.refusals.proofs.Lengths.{length_is, length_bounds}
use Rattle.hash.specs.Sizes.{longest, longest_hex}
use Rattle.hash.specs.Hash.{is_digest_length, hash_in_range, hash_of, digest_of, zero_hash, no_hash, made_from, length_answered, same_bytes, hex_of}
use Rattle.hash.specs.declared.Hash.{Hash}
use Rattle.hash.specs.Answers.{HashAnswer}

pub digest_length_is : (n : ℕ) → 1 ≤ n → n ≤ longest → is_digest_length n ≡ true
digest_length_is = length_is longest

pub digest_length_bounds : (n : ℕ) → is_digest_length n ≡ true → (1 ≤ n) × (n ≤ longest)
digest_length_bounds = length_bounds longest

pub hash_in_range_lem : (d : List ℕ) → 1 ≤ length d → length d ≤ longest → hash_in_range (hash_of d) ≡ true
unfolding hash_in_range
hash_in_range_lem d a b = digest_length_is (length d) a b

pub zero_not_in_range : hash_in_range zero_hash ≡ false
unfolding hash_in_range
zero_not_in_range = refl

pub digest_of_hash : (d : List ℕ) → digest_of (hash_of d) ≡ d
unfolding pad
digest_of_hash d = take-append_seam d (replicate (longest - length d) 0)

-- a digest that is asked of a state's bytes, of a length that is in range
pub made_hash : (n : ℕ) (d : List ℕ) {r : HashAnswer} → is_digest_length n ≡ true → length d ≡ longest → r ≡ made_from d n
    → r ≡ record { number = accepted; hash = hash_of (take n d) }
unfolding made_from
made_hash n d e l f = let b = digest_length_bounds n e in f ∙ rw (e, le-leb n (length d) (omega arith))

-- `same_bytes` answers yes exactly where the lists are equal
same_self : (s : List ℕ) → same_bytes s s ≡ true
unfolding same_bytes
same_self [] = refl
same_self (x ∷ s) = rw (eq-eqb x x refl) (same_self s)

-- what the library's comparison of slices answers
pub pointwise_same : (s t : List ℕ) → pointwise eqb s t ≡ same_bytes s t
unfolding same_bytes
pointwise_same [] [] = refl
pointwise_same [] (y ∷ t) = refl
pointwise_same (x ∷ s) [] = refl
pointwise_same (x ∷ s) (y ∷ t) = ap (λ (b : Bool). eqb x y && b) (pointwise_same s t)

pub same_when_equal : (s t : List ℕ) → s ≡ t → same_bytes s t ≡ true
same_when_equal s t e = rw (← e) (same_self s)

pub equal_when_same : (s t : List ℕ) → same_bytes s t ≡ true → s ≡ t
unfolding same_bytes
equal_when_same [] [] e = refl
equal_when_same [] (y ∷ t) e = absurd (false≢true e)
equal_when_same (x ∷ s) [] e = absurd (false≢true e)
equal_when_same (x ∷ s) (y ∷ t) e =
    let p = (and-eq-true_iff (eqb x y) (same_bytes s t)).0 e in
    λ i. eqb-true x y p.0 i ∷ equal_when_same s t p.1 i

pub other_length_differs : (s t : List ℕ) → (length s ≡ length t → ⊥) → same_bytes s t ≡ false
other_length_differs s t h = split (same_bytes s t) refl
  where
    split : (q : Bool) → same_bytes s t ≡ q → same_bytes s t ≡ false
    split true e = absurd (h (ap length (equal_when_same s t e)))
    split false e = e

pub length_hex : (d : List ℕ) → length (hex_of d) ≡ 2 * length d
unfolding hex_of flat_map
length_hex [] = refl
length_hex (x ∷ d) = let e = length_hex d in omega arith

-- the digits over the front of an output are found there
pub hex_front : (d : List ℕ) (out : List ℕ) → take (2 * length d) (over (hex_of d) out) ≡ hex_of d
unfolding over
hex_front d out = rw (← length_hex d) (take-append_seam (hex_of d) (drop (length (hex_of d)) out))

-- what is made of 64 bytes
pub whole_hash : (d : List ℕ) → length d ≡ longest → record { bytes = d; len = longest } ≡ hash_of d
whole_hash d l = λ i. record { bytes = sym (pad_whole longest d l) i; len = sym l i }

-- and of the bytes of a state
module _ (d : List ℕ) (n : ℕ) where
  pub not_made : is_digest_length n ≡ false → no_hash digest_length ≡ made_from d n
  unfolding made_from
  not_made e = rw e

  module _ (e : is_digest_length n ≡ true) where
    pub not_there : length d < n → no_hash digest_length ≡ made_from d n
    unfolding made_from
    not_there h = rw (e, lt-leb n (length d) h)

    pub made : n ≤ length d → record { number = accepted; hash = record { bytes = pad longest (take n d); len = n } } ≡ made_from d n
    unfolding made_from
    made h = rw (e, le-leb n (length d) h, length-take-le n d h)

module _ (h : Hash) where
  pub length_known : hash_in_range h ≡ true → record { number = accepted; length = h.len } ≡ length_answered h
  unfolding length_answered
  length_known e = rw e

  -- a record in range has as many bytes as it says
  module _ (l : length h.bytes ≡ longest) (e : hash_in_range h ≡ true) where
    pub digest_within : h.len ≤ length h.bytes
    unfolding hash_in_range
    digest_within = let b = digest_length_bounds h.len e in omega arith

    pub length_digest : length (digest_of h) ≡ h.len
    length_digest = length-take-le h.len h.bytes digest_within

    -- and twice as many digits, which fit where the most do
    pub hex_length : length (hex_of (digest_of h)) ≡ 2 * h.len
    hex_length = length_hex (digest_of h) ∙ ap (λ (n : ℕ). 2 * n) length_digest

    pub hex_within : 2 * h.len ≤ longest_hex
    unfolding hash_in_range
    hex_within = let b = digest_length_bounds h.len e in omega arith
