-- Whatever is read, in whatever pieces, the report's text is document 01's: five lines of all bytes, or the one line where a read failed
-- or more came than a total may be. So how reads are cut has no effect. Assumes nothing.
use mathlib.Core.Path.{◌≡◌, refl, sym, ap, subst, ◌∙◌}
use mathlib.Core.Bool.{Bool, true, false, cond, ◌&&◌, and-true, and-false}
use mathlib.Core.List.{List, [], ◌∷◌, ◌++◌, append-nil, append_assoc}
use Prim.Native.Nat.{ℕ, ◌+◌, ◌<◌, ◌≤◌}
use native.Mathlib.Omega.{arith}
use borrow.Author.Tests.{le-leb, lt-leb, leb-true, leb-false}
use lib.Dec.{leb, eqb}
use lib.ListN.{length, length-append}
use Rattle.definitions.specs.Family.{BLAKE2b}
use Rattle.definitions.specs.Hash.{keyed, blake2}
use Rattle.refusals.specs.Numbers.{accepted, total_over, limit}
use Rattle.hash.specs.Hash.{digest_of}
use Rattle.blake2b.specs.Params.{defaults}
use Rattle.members.specs.Row.{Answer, Row, row}
use Rattle.blake2b_state.specs.Sizes.{outbytes}
use Rattle.blake2b_state.specs.State.{state_in_range, updated, finalized, counted}
use Rattle.blake2b.specs.Row.{row_taker}
use Rattle.blake2b.specs.declared.params.Params.{Params}
use Rattle.blake2b_state.specs.declared.state.State.{State}
use Rattle.blake2b_state.specs.Answers.{StateAnswer}
use Rattle.blake2b.proofs.Cleaned.{good_defaults}
use Rattle.blake2b.proofs.Plain.{hash_plain, length_of_digest, plain_within}
use Rattle.blake2b.proofs.Rows.{state_of, Reached, range_reached, says_number, says_next, says_digest, says_count, opened_state}
use Rattle.report_text.specs.Lines.{five_lines, unreadable}
use Rattle.report_text.specs.Reads.{Read, piece, failure, after_reads, bytes_of, none_failed, reported, printed}
use Rattle.hash.specs.Output.{wrote, wrote_over}
use Rattle.report_text.specs.Report.{begun, taken, lines_of, text_answered, text_over}
use Rattle.report_text.specs.declared.report.Report.{Report}

-- the row of some bytes, and a report that holds its state
abbrev row_of : List ℕ → Row Params
row_of bs = row defaults bs

abbrev reached : List ℕ → State
reached bs = state_of (row_of bs)

abbrev holding : List ℕ → Bool → Report
holding bs readable = record { state = reached bs; readable = readable }

module _ (bs : List ℕ) (few : length bs ≤ limit) where
  kept : Reached (row_of bs)
  kept = record { clean = good_defaults.clean; good = good_defaults.ranged; within = plain_within bs few }

  in_range_lem : state_in_range (reached bs) ≡ true
  in_range_lem = range_reached (row_of bs) kept

  digest_is : digest_of (finalized (reached bs)).hash ≡ blake2 BLAKE2b outbytes [] bs
  digest_is = ap (λ (a : Answer). a.bytes) (says_digest (row_of bs) kept) ∙ hash_plain bs

  count_is : (counted (reached bs)).count ≡ length bs
  count_is = ap (λ (a : Answer). a.value) (says_count (row_of bs) kept)

  length_is : length (digest_of (finalized (reached bs)).hash) ≡ outbytes
  length_is = ap length digest_is ∙ length_of_digest bs

  lines_reached : lines_of (holding bs true) ≡ reported bs
  unfolding lines_of
  lines_reached = λ i. five_lines (length_is i) 0 (count_is i) (digest_is i)

  -- a piece that the state takes, and one that it does not
  says : (a : List ℕ) → updated (reached bs) a ≡ record { number = row_taker.number (row_of bs) a; state = state_of (row_taker.next (row_of bs) a) }
  says a = λ i. record { number = says_number (row_of bs) kept a i; state = says_next (row_of bs) kept a i }

  accepts : (a : List ℕ) → leb (length bs + length a) limit ≡ true → updated (reached bs) a ≡ record { number = accepted; state = reached (bs ++ a) }
  unfolding keyed
  accepts a e = says a ∙ rw e

  refuses : (a : List ℕ) → leb (length bs + length a) limit ≡ false → updated (reached bs) a ≡ record { number = total_over; state = reached bs }
  unfolding keyed
  refuses a e = says a ∙ rw e

  take_accepted : (w : Bool) (a : List ℕ) → leb (length bs + length a) limit ≡ true → taken (holding bs w) a ≡ holding (bs ++ a) w
  take_accepted w a e =
      ap (λ (u : StateAnswer). record { state = u.state; readable = w && eqb u.number accepted }) (accepts a e)
      ∙ ap (λ (q : Bool). record { state = reached (bs ++ a); readable = q }) (and-true w)

  take_refused : (w : Bool) (a : List ℕ) → leb (length bs + length a) limit ≡ false → taken (holding bs w) a ≡ holding bs false
  take_refused w a e =
      ap (λ (u : StateAnswer). record { state = u.state; readable = w && eqb u.number accepted }) (refuses a e)
      ∙ ap (λ (q : Bool). record { state = reached bs; readable = q }) (and-false w)

-- whether all was read, of some bytes and the reads after them
abbrev all_read : Bool → List ℕ → List Read → Bool
all_read w bs xs = w && (none_failed xs && leb (length (bs ++ bytes_of xs)) limit)

-- a report prints what it should, of some bytes and the reads after them
record Prints (r : Report) (w : Bool) (bs : List ℕ) (xs : List Read) : Type 0 where
  ranged : state_in_range r.state ≡ true
  lines : lines_of r ≡ cond (all_read w bs xs) (reported (bs ++ bytes_of xs)) unreadable

Follows : List Read → Type 0
Follows xs = (w : Bool) (bs : List ℕ) → length bs ≤ limit → Prints (after_reads (holding bs w) xs) w bs xs

ended : Follows []
unfolding Follows after_reads bytes_of none_failed lines_of
ended true bs few =
    record {
      ranged = in_range_lem bs few;
      lines = rw (append-nil bs, le-leb (length bs) limit few) (lines_reached bs few);
    }
ended false bs few = record { ranged = in_range_lem bs few; lines = refl }

-- after a read that fails, or a piece that is refused, only the one line is left
one_line : (r : Report) (w : Bool) (bs cs : List ℕ) (xs ys : List Read) → all_read w bs ys ≡ false → Prints r false cs xs → Prints r w bs ys
one_line r w bs cs xs ys e p = record { ranged = p.ranged; lines = rw e p.lines }

after_failure : (xs : List Read) → Follows xs → Follows (failure ∷ xs)
unfolding Follows after_reads none_failed
after_failure xs rest w bs few = one_line (after_reads (holding bs false) xs) w bs bs xs (failure ∷ xs) (and-false w) (rest false bs few)

after_piece : (a : List ℕ) (xs : List Read) → Follows xs → Follows (piece a ∷ xs)
unfolding Follows after_reads bytes_of none_failed
after_piece a xs rest w bs few = split (leb (length bs + length a) limit) refl
  where
    split : (q : Bool) → leb (length bs + length a) limit ≡ q → Prints (after_reads (taken (holding bs w) a) xs) w bs (piece a ∷ xs)
    split true e =
        let l = length-append bs a in
        let more : length (bs ++ a) ≤ limit = omega (arith, leb-true (length bs + length a) limit e) in
        let p = rest w (bs ++ a) more in
        let j = append_assoc bs a (bytes_of xs) in
        rw (take_accepted bs few w a e)
        (record { ranged = p.ranged; lines = p.lines ∙ ap (λ (m : List ℕ). cond (w && (none_failed xs && leb (length m) limit)) (reported m) unreadable) j })
    split false e =
        let l = length-append bs (a ++ bytes_of xs) in
        let k = length-append a (bytes_of xs) in
        let past : limit < length (bs ++ (a ++ bytes_of xs)) = omega (arith, leb-false (length bs + length a) limit e) in
        let none : all_read w bs (piece a ∷ xs) ≡ false =
        ap (λ (q : Bool). w && (none_failed xs && q)) (lt-leb (length (bs ++ (a ++ bytes_of xs))) limit past)
        ∙ ap (λ (q : Bool). w && q) (and-false (none_failed xs))
        ∙ and-false w in
        rw (take_refused bs few w a e) (one_line (after_reads (holding bs false) xs) w bs bs xs (piece a ∷ xs) none (rest false bs few))

follows : (xs : List Read) → Follows xs
follows [] = ended
follows (piece a ∷ xs) = after_piece a xs (follows xs)
follows (failure ∷ xs) = after_failure xs (follows xs)

from_begun : (xs : List Read) → Prints (after_reads begun xs) true [] xs
unfolding Follows
from_begun xs =
    subst (λ (s : State). Prints (after_reads (record { state = s; readable = true }) xs) true [] xs)
    (opened_state defaults good_defaults.clean) (follows xs true [] (omega arith))

-- the text of any reads
pub text_of_reads : (xs : List Read) → lines_of (after_reads begun xs) ≡ printed xs
unfolding printed
text_of_reads xs = (from_begun xs).lines

-- and what `text` answers and leaves: it never meets 14
pub text_answers : (xs : List Read) (room : ℕ) → text_answered (after_reads begun xs) room ≡ wrote (length (printed xs)) room
unfolding text_answered
text_answers xs room = rw (from_begun xs).ranged (ap (λ (t : List ℕ). wrote (length t) room) (text_of_reads xs))

pub text_leaves : (xs : List Read) (out : List ℕ) → text_over (after_reads begun xs) out ≡ wrote_over (printed xs) out
unfolding text_over
text_leaves xs out = rw (from_begun xs).ranged (ap (λ (t : List ℕ). wrote_over t out) (text_of_reads xs))

-- a read that fails, at any time, gives the one line
pub failed_read : (xs : List Read) → none_failed xs ≡ false → lines_of (after_reads begun xs) ≡ unreadable
unfolding printed
failed_read xs e = text_of_reads xs ∙ rw e refl

-- of reads that do not fail, the bytes alone are told
pub any_cuts : (xs ys : List Read) → none_failed xs ≡ none_failed ys → bytes_of xs ≡ bytes_of ys → lines_of (after_reads begun xs) ≡ lines_of (after_reads begun ys)
unfolding printed
any_cuts xs ys e f =
    text_of_reads xs
    ∙ (λ i. cond (e i && leb (length (f i)) limit) (reported (f i)) unreadable)
    ∙ sym (text_of_reads ys)
