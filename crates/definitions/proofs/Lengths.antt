-- The lengths of counted numbers, of parts and of what is padded.
-- Assumes nothing.
use mathlib.Core.Path.{◌≡◌, refl, ap}
use mathlib.Core.List.{List}
use Prim.Native.Nat.{ℕ, zero, suc, ◌-◌, ◌*◌, ◌≤◌, min}
use native.Mathlib.Omega.{arith}
use lib.ListN.{length, length-append, length-take, length-drop, length-replicate}
use Rattle.definitions.specs.Words.{from, part, pad}

pub length_from : (i n : ℕ) → length (from i n) ≡ n
length_from i zero = refl
length_from i (suc n) = ap suc (length_from (suc i) n)

pub length_part : (n : ℕ) (s : List ℕ) (i : ℕ) → length (part n s i) ≡ min n (length s - i * n)
length_part n s i = simp (length-take, length-drop)

pub length_pad : (n : ℕ) (s : List ℕ) → length s ≤ n → length (pad n s) ≡ n
unfolding pad
length_pad n s h = simp (length-append, length-replicate) (omega arith)
