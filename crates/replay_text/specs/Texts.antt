-- What a fault and an answer are written as.
-- Assumes nothing.
use Rattle.std.specs.Prelude.{ℕ, List, [], ◌∷◌, ◌++◌, ◌/◌, ◌%◌, false, codes, decimal}
use Rattle.std.specs.Int.{from_bool}
use Rattle.std.specs.Fmt.{digit_glyph}
use Rattle.std.specs.List.{flat_map}
use Rattle.replay_text.specs.declared.fault.Fault.{Fault}
use Rattle.replay_text.specs.declared.fault.Fault.TheVariants.{Command, Number, Message, Line}
use Rattle.replay_text.specs.declared.answer.Answer.{Answer}
use Rattle.replay_text.specs.declared.answer.Shown.{Shown}
use Rattle.replay_text.specs.declared.answer.Shown.TheVariants.{Nothing, Index, Count, Length, Equal, Bytes}

abbrev pub text_of : Fault → List ℕ
text_of Command = codes "malformed command"
text_of Number = codes "malformed number"
text_of Message = codes "malformed message"
text_of Line = codes "malformed line"

-- a byte as two lower-case digits
abbrev pub digits_of : ℕ → List ℕ
digits_of byte = digit_glyph false (byte / 16) ∷ digit_glyph false (byte % 16) ∷ []

abbrev pub hex_text : List ℕ → List ℕ
hex_text bytes = flat_map digits_of bytes

-- what a call's answer shows behind its number
abbrev pub shown_text : Shown → List ℕ
shown_text Nothing = []
shown_text (Index index) = codes " index=" ++ decimal index
shown_text (Count count) = codes " count=" ++ decimal count
shown_text (Length length) = codes " length=" ++ decimal length
shown_text (Equal equal) = codes " equal=" ++ decimal (from_bool equal)
shown_text (Bytes length bytes) = codes " length=" ++ decimal length ++ codes " bytes=" ++ hex_text bytes.now

abbrev pub answer_text : Answer → List ℕ
answer_text answer = codes "number=" ++ decimal answer.number ++ shown_text answer.shown
