-- A text to a lent output, whole or not at all: what is answered, the output after it, and the part written, as document 01's refusal 11 says.
-- Assumes nothing.
use Rattle.std.specs.Prelude.{cond, List, ℕ, leb, length, take}
use Rattle.laws_words.specs.Bytes.{over}
use Rattle.refusals.specs.Numbers.{accepted, output_short}
use Rattle.hash.specs.Answers.{LengthAnswer}

-- n bytes of text to an output of `room` bytes: 11 where that is shorter
abbrev pub wrote : ℕ → ℕ → LengthAnswer
wrote n room = cond (leb n room) (record { number = accepted; length = n }) (record { number = output_short; length = 0 })

-- the text over the output's front, or every byte as it was
abbrev pub wrote_over : List ℕ → List ℕ → List ℕ
wrote_over text out = cond (leb (length text) (length out)) (over text out) out

-- the part that the n bytes went to: none of it where they did not
abbrev pub wrote_part : ℕ → List ℕ → List ℕ
wrote_part n out = take (wrote n (length out)).length out
