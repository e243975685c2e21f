-- What is left of a line, and the two parts of a text that its first mark parts.
-- Assumes nothing.
use Rattle.std.specs.Prelude.{ℕ, Bool, true, List, [], ◌∷◌, length, Option, Some, None, option_map, if◌then◌else◌, nat_lt, ◌==◌}
use Rattle.std.specs.List.{position_or_len, before_first, after_first}
use Rattle.replay_text.specs.declared.words.Words.{Words}

-- where the first mark is: the text's length where there is none
abbrev pub place : ℕ → List ℕ → ℕ
place mark text = position_or_len (λ byte. byte == mark) text

abbrev pub in_front : ℕ → List ℕ → List ℕ
in_front mark text = before_first (λ byte. byte == mark) text

abbrev pub behind : ℕ → List ℕ → Option (List ℕ)
behind mark text = if nat_lt (place mark text) (length text) then Some (after_first (λ byte. byte == mark) text) else None

abbrev pub left : Words → Option (List ℕ)
left words = option_map (λ rest. rest.now) words.rest

-- whether a line is answered nothing: it is empty, or starts with #, whose code is 35
abbrev pub is_passed_over : List ℕ → Bool
is_passed_over [] = true
is_passed_over (first ∷ rest) = first == 35
