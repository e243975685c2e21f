-- Words of w bits and their bytes (RFC 7693, sections 2.3 and 2.4), and lists of numbers.
-- Assumes nothing.
use Rattle.std.specs.Prelude.{List, [], ◌∷◌, ◌++◌, ℕ, zero, suc, ◌+◌, ◌-◌, ◌*◌, ◌/◌, ◌%◌, ◌^◌, get_or, length, take, drop, replicate}
use Rattle.std.specs.Int.Bits.{bit_xor}

infixl 68 ◌⊕◌
infixl 90 ◌!◌
-- x ^ y
abbrev pub ◌⊕◌ : ℕ → ℕ → ℕ
x ⊕ y = bit_xor x y

-- x >>> k, at words of w bits
unfoldable pub rotr : ℕ → ℕ → ℕ → ℕ
rotr w k x = x / 2 ^ k + (x % 2 ^ k) * 2 ^ (w - k)

-- v[i]
abbrev pub ◌!◌ : List ℕ → ℕ → ℕ
v ! i = get_or v i 0

-- i, i + 1, .., n numbers
abbrev pub from : ℕ → ℕ → List ℕ
from i zero = []
from i (suc n) = i ∷ from (suc i) n

-- the number that bytes stand for, the lowest first
abbrev pub word : List ℕ → ℕ
word [] = 0
word (b ∷ s) = b + 256 * word s

-- the n bytes of a number, the lowest first
abbrev pub bytes : ℕ → ℕ → List ℕ
bytes zero x = []
bytes (suc n) x = x % 256 ∷ bytes n (x / 256)

-- the part i of s, in parts of n
abbrev pub part : ℕ → List ℕ → ℕ → List ℕ
part n s i = take n (drop (i * n) s)

-- s, and zeros up to n
unfoldable pub pad : ℕ → List ℕ → List ℕ
pad n s = s ++ replicate (n - length s) 0
