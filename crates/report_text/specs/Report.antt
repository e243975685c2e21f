-- The report's record: what each call answers, over the record's own fields.
-- Assumes nothing.
use Rattle.std.specs.Prelude.{true, false, cond, ◌&&◌, List, ℕ, zero, suc, eqb, ℤ, pos, negsuc, length, take}
use Rattle.refusals.specs.Numbers.{accepted, bad_record}
use Rattle.hash.specs.Hash.{digest_of}
use Rattle.hash.specs.Output.{wrote, wrote_over}
use Rattle.blake2b.specs.Params.{defaults}
use Rattle.blake2b_state.specs.State.{state_in_range, updated, finalized, counted}
use Rattle.blake2b.specs.Member.{fresh}
use Rattle.hash.specs.Answers.{LengthAnswer}
use Rattle.report_text.specs.Lines.{five_lines, unreadable}
use Rattle.report_text.specs.Answers.{Reading}
use Rattle.report_text.specs.declared.report.Report.{Report}

-- nothing was read
abbrev pub begun : Report
begun = record { state = fresh defaults; readable = true }

-- a piece was read: one that the state refuses makes the input unreadable
abbrev pub taken : Report → List ℕ → Report
taken r a = record { state = (updated r.state a).state; readable = r.readable && eqb (updated r.state a).number accepted }

-- a read failed
abbrev pub failed : Report → Report
failed r = record { state = r.state; readable = false }

-- what a read to the front of a buffer answered: less than 0 where it failed, 0 at the end of the input, else a number of bytes
unfoldable pub after_reading : Report → ℤ → List ℕ → Reading
after_reading r (negsuc n) buffer = record { report = failed r; more = false }
after_reading r (pos zero) buffer = record { report = r; more = false }
after_reading r (pos (suc n)) buffer = record { report = taken r (take (suc n) buffer); more = true }

-- the text of a report, where its state is in range
unfoldable pub lines_of : Report → List ℕ
lines_of r =
    let s = r.state in
    cond r.readable (five_lines (length (digest_of (finalized s).hash)) 0 (counted s).count (digest_of (finalized s).hash)) unreadable

-- the report's text, to an output: 14 where the state is out of range
unfoldable pub text_answered : Report → ℕ → LengthAnswer
text_answered r room = cond (state_in_range r.state) (wrote (length (lines_of r)) room) (record { number = bad_record; length = 0 })

unfoldable pub text_over : Report → List ℕ → List ℕ
text_over r out = cond (state_in_range r.state) (wrote_over (lines_of r) out) out
