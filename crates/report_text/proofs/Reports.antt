-- The report's record: each answer, case by case.
-- Assumes nothing.
use mathlib.Core.Path.{◌≡◌, refl, sym, ap, ◌∙◌}
use mathlib.Core.Bool.{Bool, true, false}
use mathlib.Core.List.{List, ◌++◌, append_assoc}
use Prim.Native.Nat.{ℕ, ◌≤◌}
use native.Mathlib.Omega.{arith}
use borrow.Author.Tests.{le-leb}
use lib.ListN.{length, take, drop}
use lib.Seq.{take-append_seam}
use Rattle.std.specs.Prelude.{Result, Ok, Err}
use Rattle.laws_words.specs.Bytes.{over}
use Rattle.refusals.specs.Numbers.{accepted, bad_record}
use Rattle.refusals.specs.declared.refusal.Refusal.{Refusal}
use Rattle.refusals.specs.declared.refusal.Refusal.TheVariants.{Record}
use Rattle.refusals.proofs.Settled.{same_refusal, never_accepted}
use Rattle.hash.specs.Sizes.{longest, longest_hex}
use Rattle.hash.specs.Answers.{HashAnswer, as_hash_answer, as_length_answer}
use Rattle.hash.specs.Hash.{hash_in_range, digest_of, hex_of, length_answered, written_answered}
use Rattle.hash.specs.Hash as hashes
use Rattle.blake2b_state.specs.State.{state_in_range, finalized, counted, closed_digest, bounds}
use Rattle.hash.specs.declared.Hash.{Hash}
use Rattle.blake2b_state.specs.declared.state.State.{State}
use Rattle.blake2b_state.specs.Answers.{CountAnswer, as_count_answer}
use Rattle.hash.proofs.Digests.{hash_in_range_lem, length_known, length_digest, hex_length, hex_within}
use Rattle.hash.proofs.Unique.{length_settled}
use Rattle.hash.proofs.Outputs.{room_enough, answered_good, over_good}
use Rattle.members.proofs.Ranges.{in_range_lem}
use Rattle.blake2b_state.proofs.Lengths.{length_closed_digest}
use Rattle.report_text.specs.Ascii.{ascii}
use Rattle.report_text.specs.Lines.{decimal, line, length_lines, five_lines, unreadable}
use Rattle.report_text.specs.Report.{lines_of}
use Rattle.report_text.specs.declared.report.Report.{Report}

-- the five lines, one behind another
pub five_appended : (n count : ℕ) (d : List ℕ)
    → (((line (ascii "alg") (ascii "blake2b") ++ line (ascii "hash_length") (decimal n)) ++ line (ascii "key_length") (decimal 0)) ++ line (ascii "count") (decimal count)) ++ line (ascii "digest") (hex_of d)
    ≡ five_lines n 0 count d
unfolding five_lines length_lines
five_appended n count d = simp append_assoc

-- a digest that is in range: its length, and its hexadecimal in front of a buffer that takes the longest
module _ (h : Hash) (good : hash_in_range h ≡ true) (whole : length h.bytes ≡ longest) where
  pub len_known : {r : Result ℕ Refusal} → as_length_answer r ≡ length_answered h → r ≡ Ok (length (digest_of h))
  len_known {r} e = length_settled (e ∙ sym (length_known h good) ∙ ap (λ (n : ℕ). record { number = accepted; length = n }) (sym (length_digest h whole good)))

  pub hex_fits : length (hex_of (digest_of h)) ≤ longest_hex
  hex_fits = rw (hex_length h whole good) (hex_within h whole good)

  pub hex_known : (room : ℕ) {r : Result ℕ Refusal} → longest_hex ≤ room → as_length_answer r ≡ written_answered h (length (hex_of (digest_of h))) room → r ≡ Ok (length (hex_of (digest_of h)))
  hex_known room {r} l e =
      let n = length (hex_of (digest_of h)) in
      let f = hex_fits in
      length_settled (e ∙ answered_good h good n room ∙ sym (room_enough n room (omega arith)))

  pub hex_front : (out : List ℕ) → longest_hex ≤ length out → take (length (hex_of (digest_of h))) (hashes.written_over h (hex_of (digest_of h)) out) ≡ hex_of (digest_of h)
  unfolding over
  hex_front out l =
      let d = hex_of (digest_of h) in
      let f = hex_fits in
      rw (over_good h good d out, le-leb (length d) (length out) (omega arith)) (take-append_seam d (drop (length d) out))

-- the digest and the count of a state, and a refusal of them
module _ (s : State) where
  pub finalize_told : {h : Hash} → as_hash_answer (Ok h) ≡ finalized s → (state_in_range s ≡ true) × (hash_in_range h ≡ true)
  unfolding finalized
  finalize_told {h} e = split (state_in_range s) refl
    where
      split : (b : Bool) → state_in_range s ≡ b → (b ≡ true) × (hash_in_range h ≡ true)
      split true g =
          let r = in_range_lem bounds s.hash_length s.buflen s.count s.is_keyed g in
          let l = length_closed_digest s r.most in
          (refl, ap (λ (a : HashAnswer). hash_in_range a.hash) (rw g at e) ∙ hash_in_range_lem (closed_digest s) (omega (arith, r.least)) (omega (arith, r.most)))
      split false g = let z : accepted ≡ bad_record = ap (λ (a : HashAnswer). a.number) (rw g at e) in absurd (omega arith)

  pub finalize_refused : (e : Refusal) → as_hash_answer (Err e) ≡ finalized s → (state_in_range s ≡ false) × (e ≡ Record)
  unfolding finalized
  finalize_refused e f = split (state_in_range s) refl
    where
      split : (b : Bool) → state_in_range s ≡ b → (b ≡ false) × (e ≡ Record)
      split true g = absurd (never_accepted e (ap (λ (a : HashAnswer). a.number) (rw g at f)))
      split false g = (refl, same_refusal e Record (ap (λ (a : HashAnswer). a.number) (rw g at f)))

  pub count_told : {n : ℕ} → as_count_answer (Ok n) ≡ counted s → state_in_range s ≡ true
  unfolding counted
  count_told e = split (state_in_range s) refl
    where
      split : (b : Bool) → state_in_range s ≡ b → b ≡ true
      split true g = refl
      split false g = let z : accepted ≡ bad_record = ap (λ (a : CountAnswer). a.number) (rw g at e) in absurd (omega arith)

  pub count_refused : (e : Refusal) → as_count_answer (Err e) ≡ counted s → (state_in_range s ≡ false) × (e ≡ Record)
  unfolding counted
  count_refused e f = split (state_in_range s) refl
    where
      split : (b : Bool) → state_in_range s ≡ b → (b ≡ false) × (e ≡ Record)
      split true g = absurd (never_accepted e (ap (λ (a : CountAnswer). a.number) (rw g at f)))
      split false g = (refl, same_refusal e Record (ap (λ (a : CountAnswer). a.number) (rw g at f)))

-- the one line
pub lines_unreadable : (r : Report) → r.readable ≡ false → line (ascii "result") (ascii "unreadable") ≡ lines_of r
unfolding lines_of unreadable
lines_unreadable r h = rw h refl

-- and the five, of the digest and the count that its state gives
pub lines_readable : (r : Report) (h : Hash) (n : ℕ) → r.readable ≡ true → as_hash_answer (Ok h) ≡ finalized r.state → as_count_answer (Ok n) ≡ counted r.state
    → five_lines (length (digest_of h)) 0 n (digest_of h) ≡ lines_of r
unfolding lines_of
lines_readable r h n e f g = rw e (λ i. five_lines (length (digest_of (f i).hash)) 0 (g i).count (digest_of (f i).hash))
