-- Digests: the record, its comparison, and what is written of it, as document 01's module 3 says.
-- Assumes nothing.
use Rattle.std.specs.Prelude.{Bool, true, false, cond, ◌&&◌, ℕ, ◌+◌, ◌/◌, ◌%◌, leb, ltb, eqb, length, take}
use mathlib.Core.List.{List, [], ◌∷◌, flat_map}
use Rattle.definitions.specs.Words.{pad}
use Rattle.refusals.specs.Numbers.{accepted, digest_length, bad_record, is_length}
use Rattle.hash.specs.Sizes.{longest}
use Rattle.hash.specs.Output.{wrote, wrote_over, wrote_part}
use Rattle.hash.specs.declared.Hash.{Hash}
use Rattle.hash.specs.Answers.{HashAnswer, LengthAnswer, EqualAnswer}
pub use Rattle.hash.specs.Answers.{zero_hash}

-- a digest has 1 to 64 bytes
abbrev pub is_digest_length : ℕ → Bool
is_digest_length = is_length longest

-- the range of refusal 14
unfoldable pub hash_in_range : Hash → Bool
hash_in_range h = is_digest_length h.len

-- the record of a digest: zeros behind it
abbrev pub hash_of : List ℕ → Hash
hash_of d = record { bytes = pad longest d; len = length d }

-- the digest of a record
abbrev pub digest_of : Hash → List ℕ
digest_of h = take h.len h.bytes

abbrev pub no_hash : ℕ → HashAnswer
no_hash refusal = record { number = refusal; hash = zero_hash }

-- the record of a digest that is the first n bytes of a state's d: no state has a digest of more than there are
unfoldable pub made_from : List ℕ → ℕ → HashAnswer
made_from d n = cond (is_digest_length n && leb n (length d)) (record { number = accepted; hash = hash_of (take n d) }) (no_hash digest_length)

-- the length of a digest
unfoldable pub length_answered : Hash → LengthAnswer
length_answered h = cond (hash_in_range h) (record { number = accepted; length = h.len }) (record { number = bad_record; length = 0 })

-- whether two lists of bytes are the same
unfoldable pub same_bytes : List ℕ → List ℕ → Bool
same_bytes [] [] = true
same_bytes [] (y ∷ t) = false
same_bytes (x ∷ s) [] = false
same_bytes (x ∷ s) (y ∷ t) = eqb x y && same_bytes s t

-- a digest compared with other bytes, which are lent (good) or of a record that is in range (good) or not: no where a record is bad
unfoldable pub compared : Hash → Bool → List ℕ → EqualAnswer
compared h good other =
    cond (hash_in_range h && good) (record { number = accepted; equal = same_bytes (digest_of h) other }) (record { number = bad_record; equal = false })

-- lower-case hexadecimal, the high digit first
unfoldable pub digit_of : ℕ → ℕ
digit_of n = cond (ltb n 10) (n + 48) (n + 87)

unfoldable pub hex_of : List ℕ → List ℕ
hex_of d = flat_map (λ b. digit_of (b / 16) ∷ digit_of (b % 16) ∷ []) d

-- n bytes of text of a digest are to go to an output of `room` bytes: the answer
unfoldable pub written_answered : Hash → ℕ → ℕ → LengthAnswer
written_answered h n room = cond (hash_in_range h) (wrote n room) (record { number = bad_record; length = 0 })

-- the output once the text was to go there
unfoldable pub written_over : Hash → List ℕ → List ℕ → List ℕ
written_over h text out = cond (hash_in_range h) (wrote_over text out) out

-- the part of an output that n bytes of text were written to
unfoldable pub written_part : Hash → ℕ → List ℕ → List ℕ
written_part h n out = cond (hash_in_range h) (wrote_part n out) []
