-- The report's lines, as document 01's module 6 spells them, and numbers in decimal.
-- Assumes nothing.
use Rattle.std.specs.Prelude.{cond, List, [], ◌∷◌, ◌++◌, ℕ, zero, suc, ◌+◌, ◌/◌, ◌%◌, ltb}
use Rattle.hash.specs.Hash.{hex_of}
use Rattle.report_text.specs.Ascii.{ascii}

-- a decimal digit; 48 is that of 0
abbrev pub digit_of : ℕ → ℕ
digit_of d = 48 + d

-- the decimal digits of a number, the highest first: k bounds how many, and k over n is more than enough
unfoldable pub spelled : ℕ → ℕ → List ℕ
spelled zero n = []
spelled (suc k) n = cond (ltb n 10) (digit_of n ∷ []) (spelled k (n / 10) ++ (digit_of (n % 10) ∷ []))

abbrev pub decimal : ℕ → List ℕ
decimal n = spelled (suc n) n

-- a name, what it is, and a line feed
unfoldable pub line : List ℕ → List ℕ → List ℕ
line name value = name ++ ascii "=" ++ value ++ ascii "\n"

-- what is reported of the algorithm, and of the lengths of digest and key
unfoldable pub length_lines : ℕ → ℕ → List ℕ
length_lines hash_length key_length =
    line (ascii "alg") (ascii "blake2b")
    ++ line (ascii "hash_length") (decimal hash_length)
    ++ line (ascii "key_length") (decimal key_length)

-- and of a message of so many bytes, and its digest
unfoldable pub five_lines : ℕ → ℕ → ℕ → List ℕ → List ℕ
five_lines hash_length key_length count digest =
    length_lines hash_length key_length
    ++ line (ascii "count") (decimal count)
    ++ line (ascii "digest") (hex_of digest)

-- what is reported where a read failed
unfoldable pub unreadable : List ℕ
unreadable = line (ascii "result") (ascii "unreadable")
