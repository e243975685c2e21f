-- What a line adds to a text, and how long it is.
-- Assumes nothing.
use mathlib.Core.Path.{◌≡◌}
use mathlib.Core.List.{List, ◌++◌, append_assoc}
use Prim.Native.Nat.{ℕ, ◌+◌, ◌^◌, ◌<◌, ◌≤◌}
use native.Mathlib.Omega.{arith}
use lib.ListN.{length, length-append}
use Rattle.report_text.specs.Ascii.{ascii}
use Rattle.report_text.specs.Lines.{line, decimal}
use Rattle.report_text.proofs.Decimals.{at_most_twenty}

pub length_line : (name value : List ℕ) → length (line name value) ≡ length name + length value + 2
unfolding line
length_line name value = simp length-append (omega arith)

-- the four texts of a line, one behind another
pub line_appended : (text name value : List ℕ) → (((text ++ name) ++ ascii "=") ++ value) ++ ascii "\n" ≡ text ++ line name value
unfolding line
line_appended text name value = simp append_assoc

-- a line whose value is a number in decimal
pub number_fits : (text name : List ℕ) (n : ℕ) → n < 2 ^ 64 → length (text ++ line name (decimal n)) ≤ length text + (length name + 22)
number_fits text name n h =
    let l = length-append text (line name (decimal n)) in
    let k = length_line name (decimal n) in
    let t = at_most_twenty n h in
    omega arith
