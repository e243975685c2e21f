-- What is read from an input, the report after it, and what document 01 says is printed: by RFC 7693's hash and numbers of bytes alone.
-- Assumes nothing.
use Rattle.std.specs.Prelude.{Bool, true, false, cond, ◌&&◌, List, [], ◌∷◌, ◌++◌, ℕ, zero, suc, leb, ℤ, pos, negsuc, length, take}
use Rattle.definitions.specs.Family.{BLAKE2b}
use Rattle.definitions.specs.Hash.{blake2}
use Rattle.refusals.specs.Numbers.{limit}
use Rattle.report_text.specs.Lines.{five_lines, unreadable}
use Rattle.report_text.specs.Report.{taken, failed}
use Rattle.report_text.specs.declared.report.Report.{Report}
use Rattle.blake2b_state.specs.Sizes.{outbytes}

pub data Read : Type 0 where
  piece : List ℕ → Read
  failure : Read

-- the report: each read as the crate's function promises it
abbrev pub after_read : Report → Read → Report
after_read r (piece a) = taken r a
after_read r failure = failed r

unfoldable pub after_reads : Report → List Read → Report
after_reads r [] = r
after_reads r (x ∷ xs) = after_reads (after_read r x) xs

-- what came by a read of the machine's, which answered a number and left bytes in a buffer: at the end of the input, nothing
abbrev pub came : ℤ → List ℕ → List Read
came (negsuc n) buffer = failure ∷ []
came (pos zero) buffer = []
came (pos (suc n)) buffer = piece (take (suc n) buffer) ∷ []

-- all bytes that came, whatever the pieces
unfoldable pub bytes_of : List Read → List ℕ
bytes_of [] = []
bytes_of (piece a ∷ xs) = a ++ bytes_of xs
bytes_of (failure ∷ xs) = bytes_of xs

-- no read failed
unfoldable pub none_failed : List Read → Bool
none_failed [] = true
none_failed (piece a ∷ xs) = none_failed xs
none_failed (failure ∷ xs) = false

-- five lines of a message, by RFC 7693: no key, and 64 bytes of digest
abbrev pub reported : List ℕ → List ℕ
reported m = five_lines outbytes 0 (length m) (blake2 BLAKE2b outbytes [] m)

-- what is printed: the one line where a read failed, or more came than a total may be
unfoldable pub printed : List Read → List ℕ
printed xs = cond (none_failed xs && leb (length (bytes_of xs)) limit) (reported (bytes_of xs)) unreadable
