-- The longest text has 203 bytes: an output of that length, and so one of `Report::ROOM`, takes the report of any input.
-- Assumes nothing.
use mathlib.Core.Path.{◌≡◌, refl}
use mathlib.Core.Bool.{Bool, true, false, cond, ◌&&◌, and-eq-true_iff}
use mathlib.Core.List.{List, [], ◌++◌}
use Prim.Native.Nat.{ℕ, ◌+◌, ◌≤◌}
use native.Mathlib.Omega.{arith}
use borrow.Author.Tests.{leb-true}
use lib.Dec.{leb}
use lib.ListN.{length, length-append}
use Rattle.definitions.specs.Family.{BLAKE2b}
use Rattle.definitions.specs.Hash.{blake2}
use Rattle.refusals.specs.Numbers.{limit}
use Rattle.hash.specs.Hash.{hex_of}
use Rattle.hash.proofs.Digests.{length_hex}
use Rattle.blake2b.proofs.Plain.{length_of_digest}
use Rattle.report_text.specs.Ascii.{ascii}
use Rattle.report_text.specs.Lines.{decimal, spelled, line, length_lines, five_lines, unreadable}
use Rattle.report_text.specs.Reads.{Read, bytes_of, none_failed, reported, printed}
use Rattle.blake2b_state.specs.Sizes.{outbytes}
use Rattle.report_text.proofs.Appending.{length_line}
use Rattle.report_text.proofs.Decimals.{at_most_twenty}

length_lengths : length (length_lines outbytes 0) ≡ 40
unfolding length_lines line spelled
length_lengths = refl

length_unreadable : length unreadable ≡ 18
unfolding unreadable line
length_unreadable = refl

length_reported : (m : List ℕ) → length m ≤ limit → length (reported m) ≤ 203
unfolding five_lines limit
length_reported m few =
    let d = blake2 BLAKE2b outbytes [] m in
    let count = line (ascii "count") (decimal (length m)) in
    let digest = line (ascii "digest") (hex_of d) in
    let a = length-append (length_lines outbytes 0 ++ count) digest in
    let b = length-append (length_lines outbytes 0) count in
    let l = length_lengths in
    let c : length count ≡ 5 + length (decimal (length m)) + 2 = length_line (ascii "count") (decimal (length m)) in
    let e : length digest ≡ 6 + length (hex_of d) + 2 = length_line (ascii "digest") (hex_of d) in
    let h = length_hex d in
    let w = length_of_digest m in
    let t = at_most_twenty (length m) (omega arith) in
    omega (arith, a, b, l, c, e, h, w, t)

pub longest_text : (xs : List Read) → length (printed xs) ≤ 203
unfolding printed
longest_text xs = split (none_failed xs && leb (length (bytes_of xs)) limit) refl
  where
    split : (q : Bool) → (none_failed xs && leb (length (bytes_of xs)) limit) ≡ q → length (cond q (reported (bytes_of xs)) unreadable) ≤ 203
    split true e = length_reported (bytes_of xs) (leb-true (length (bytes_of xs)) limit ((and-eq-true_iff (none_failed xs) (leb (length (bytes_of xs)) limit)).0 e).1)
    split false e = let l = length_unreadable in omega arith
