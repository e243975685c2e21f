-- A text to a lent output by the rule of refusal 11, and what is written of a digest by it.
-- Assumes nothing.
use mathlib.Core.Path.{◌≡◌, refl, sym, ap, ◌∙◌}
use mathlib.Core.Bool.{Bool, true, false}
use mathlib.Core.List.{List}
use Prim.Native.Nat.{ℕ, ◌≤◌, zero-le}
use native.Mathlib.Omega.{arith}
use borrow.Author.Tests.{le-leb, leb-true}
use lib.Dec.{leb}
use lib.ListN.{length, drop, length-append, length-drop}
use lib.Seq.{take-append_seam, drop-append_seam}
use Rattle.laws_words.specs.Bytes.{over}
use Rattle.refusals.specs.Numbers.{accepted}
use Rattle.hash.specs.Sizes.{longest}
use Rattle.hash.specs.Hash.{hash_in_range, hash_of, digest_of, written_answered, written_over, written_part}
use Rattle.hash.specs.Output.{wrote, wrote_over, wrote_part}
use Rattle.hash.specs.declared.Hash.{Hash}
use Rattle.hash.specs.Answers.{LengthAnswer}
use Rattle.hash.proofs.Digests.{hash_in_range_lem, digest_of_hash}

-- n bytes of text to an output with room for them
pub room_enough : (n room : ℕ) → n ≤ room → record { number = accepted; length = n } ≡ wrote n room
room_enough n room h = rw (le-leb n room h)

-- no more is written than there is room for
pub wrote_within : (n room : ℕ) → (wrote n room).length ≤ room
wrote_within n room = split (leb n room) refl
  where
    split : (q : Bool) → leb n room ≡ q → (wrote n room).length ≤ room
    split true e = rw e (leb-true n room e)
    split false e = rw e zero-le

-- a is the answer to a text that is to go to an output
module _ (text out : List ℕ) {a : LengthAnswer} (e : a ≡ wrote (length text) (length out)) where
  number : a.number ≡ (wrote (length text) (length out)).number
  number = ap (λ (b : LengthAnswer). b.number) e

  enough : a.number ≡ accepted → leb (length text) (length out) ≡ true
  enough f = split (leb (length text) (length out)) refl
    where
      split : (q : Bool) → leb (length text) (length out) ≡ q → leb (length text) (length out) ≡ true
      split true g = g
      split false g = let z : ◌≡◌ {A = ℕ} 0 11 = rw g at (sym f ∙ number) in absurd (omega arith)

  pub text_fits : a.number ≡ accepted → length text ≤ length out
  text_fits f = leb-true (length text) (length out) (enough f)

  -- after an accepted write the part that is handed back is the text, and what lies behind it is as it was
  handed_back : a.number ≡ accepted → wrote_part (length text) (wrote_over text out) ≡ text
  unfolding over
  handed_back f =
      let l = text_fits f in
      let n : length (over text out) ≡ length out = simp (length-append, length-drop) (omega arith) in
      rw (enough f, n, enough f) (take-append_seam text (drop (length text) out))

  rest_kept : a.number ≡ accepted → drop (length text) (wrote_over text out) ≡ drop (length text) out
  unfolding over
  rest_kept f = rw (enough f) (drop-append_seam text (drop (length text) out))

-- a text of a digest, its bytes or their hexadecimal
module _ (h : Hash) where
  module _ (good : hash_in_range h ≡ true) where
    pub answered_good : (n room : ℕ) → written_answered h n room ≡ wrote n room
    unfolding written_answered
    answered_good n room = rw good

    pub over_good : (text out : List ℕ) → written_over h text out ≡ wrote_over text out
    unfolding written_over
    over_good text out = rw good

    pub part_good : (n : ℕ) (out : List ℕ) → written_part h n out ≡ wrote_part n out
    unfolding written_part
    part_good n out = rw good

  module _ (text out : List ℕ) {a : LengthAnswer} (e : a ≡ written_answered h (length text) (length out)) (f : a.number ≡ accepted) where
    good : hash_in_range h ≡ true
    unfolding written_answered
    good = split (hash_in_range h) refl
      where
        split : (q : Bool) → hash_in_range h ≡ q → hash_in_range h ≡ true
        split true g = g
        split false g = let z : ◌≡◌ {A = ℕ} 0 14 = rw g at (sym f ∙ ap (λ (b : LengthAnswer). b.number) e) in absurd (omega arith)

    pub text_handed_back : written_part h (length text) (written_over h text out) ≡ text
    text_handed_back =
        rw (over_good good text out, part_good good (length text) (wrote_over text out))
        (handed_back text out (e ∙ answered_good good (length text) (length out)) f)

    pub rest_untouched : drop (length text) (written_over h text out) ≡ drop (length text) out
    rest_untouched = rw (over_good good text out) (rest_kept text out (e ∙ answered_good good (length text) (length out)) f)

-- the record of a digest of 1 to 64 bytes is in range: its write is refused only where the output is short
module _ (d out : List ℕ) (n : ℕ) (some : 1 ≤ n) (most : n ≤ longest) (l : length d ≡ n) where
  ranged : hash_in_range (hash_of d) ≡ true
  ranged = hash_in_range_lem d (omega arith) (omega arith)

  -- what write_bytes promises of such a record
  pub written_output : {h : Hash} {a : LengthAnswer} {after : List ℕ} → h ≡ hash_of d
      → (a ≡ written_answered h (length (digest_of h)) (length out)) × (after ≡ written_over h (digest_of h) out)
      → (a.number ≡ (wrote n (length out)).number) × (after ≡ wrote_over d out)
  written_output e w = (
    ap (λ (b : LengthAnswer). b.number)
        (w.0 ∙ ap (λ (k : Hash). written_answered k (length (digest_of k)) (length out)) e ∙ answered_good (hash_of d) ranged (length (digest_of (hash_of d))) (length out)
        ∙ ap (λ (b : List ℕ). wrote (length b) (length out)) (digest_of_hash d) ∙ ap (λ (k : ℕ). wrote k (length out)) l),
    w.1 ∙ ap (λ (k : Hash). written_over k (digest_of k) out) e ∙ over_good (hash_of d) ranged (digest_of (hash_of d)) out
        ∙ ap (λ (b : List ℕ). wrote_over b out) (digest_of_hash d),
  )
