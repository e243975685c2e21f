-- The text of some bytes and the next one, and that such a text is UTF-8.
-- Assumes nothing.
use Rattle.std.proofs.Common.{◌≡◌, ℕ, suc, ◌<◌, ◌+◌, ◌-◌, ◌/◌, ◌%◌, ◌^◌, false, List, [], ◌∷◌, ◌++◌, length, take, get_or, ap, sym, ◌∙◌, arith}
use Rattle.std.proofs.lemmas.Bool.Decides.{nat_tests}
use Rattle.std.proofs.lemmas.Fmt.{hex_byte}
use Rattle.std.proofs.lemmas.List.{append_assoc, flat_map_more, take_more}
use Rattle.std.proofs.lemmas.Str.{IsUtf8-from_ascii}
use Rattle.std.proofs.lemmas.Str.Ascii.{IsAscii-nil, IsAscii-cons}
use Rattle.std.specs.Fmt.{digit_glyph, digits, padded_integral, format_spec}
use Rattle.std.specs.Str.{IsAscii, IsUtf8}
use Rattle.hex.specs.Hex.{IsBytes}
use Rattle.replay_text.specs.Texts.{digits_of, hex_text}

digits_more : (xs : List ℕ) (i d : ℕ) → i < length xs → hex_text (take i xs) ++ digits_of (get_or xs i d) ≡ hex_text (take (i + 1) xs)
digits_more xs i d inside = flat_map_more digits_of [] (take i xs) (get_or xs i d) ∙ ap hex_text (sym (take_more xs i d inside))

pub hex_text_more : (xs : List ℕ) (i d : ℕ) → i < length xs → get_or xs i d < 256
    → hex_text (take i xs) ++ padded_integral (format_spec 32 0 4 2 (2 ^ 64 - 1)) false [] (digits 16 false (get_or xs i d)) ≡ hex_text (take (i + 1) xs)
hex_text_more xs i d inside byte = ap (λ text. hex_text (take i xs) ++ text) (hex_byte false (get_or xs i d) byte) ∙ digits_more xs i d inside

-- as two writes of a digit make it
pub two_digits_more : (xs : List ℕ) (i d : ℕ) → i < length xs
    → hex_text (take i xs) ++ digit_glyph false (get_or xs i d / 16) ∷ [] ++ digit_glyph false (get_or xs i d % 16) ∷ [] ≡ hex_text (take (i + 1) xs)
two_digits_more xs i d inside = append_assoc (hex_text (take i xs)) (digit_glyph false (get_or xs i d / 16) ∷ []) _ ∙ digits_more xs i d inside

ascii_digit : (d : ℕ) → d < 16 → digit_glyph false d < 128
ascii_digit d small = grind (arith, nat_tests)

ascii_text : (bytes : List ℕ) → IsBytes bytes → IsAscii (hex_text bytes)
ascii_text [] fit = IsAscii-nil
ascii_text (b ∷ bytes) fit =
    let byte : b < 256 = fit 0 in
    let high = ascii_digit (b / 16) (omega arith) in
    let low = ascii_digit (b % 16) (omega arith) in
    let rest = ascii_text bytes (λ i. fit (suc i)) in
    IsAscii-cons (digit_glyph false (b / 16)) (digit_glyph false (b % 16) ∷ hex_text bytes) high
    (IsAscii-cons (digit_glyph false (b % 16)) (hex_text bytes) low rest)

pub hex_is_text : (bytes : List ℕ) → IsBytes bytes → IsUtf8 (hex_text bytes)
hex_is_text bytes fit = IsUtf8-from_ascii (hex_text bytes) (ascii_text bytes fit)
