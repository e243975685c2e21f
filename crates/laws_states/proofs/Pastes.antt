-- One part more of a row of equal blocks, or of the bytes of a list: what loops do that fill a buffer part by part.
-- Assumes nothing.
use mathlib.Core.Path.{◌≡◌, sym, ap, ◌∙◌}
use mathlib.Core.List.{List, [], ◌∷◌, ◌++◌, flat_map, append-nil, append_assoc}
use Prim.Native.Nat.{ℕ, zero, suc, ◌+◌, ◌<◌}
use native.Mathlib.Nat.{not-suc-le-zero}
use native.Mathlib.Numerals.{add-one}
use native.Mathlib.Omega.{arith}
use lib.ListN.{length, take, get_or}
use Rattle.laws_states.specs.Leaves.{row_of}

-- one block more of a row of equal ones
pub row_more : (i : ℕ) (b : List ℕ) → row_of i b ++ b ≡ row_of (i + 1) b
unfolding row_of
row_more i b = rw add-one (behind i)
  where
    behind : (j : ℕ) → row_of j b ++ b ≡ b ++ row_of j b
    behind zero = sym (append-nil b)
    behind (suc j) = append_assoc b (row_of j b) b ∙ ap (λ (s : List ℕ). b ++ s) (behind j)

-- and of the bytes of a list's members
pub flat_more : {A C : Type 0} (g : A → List C) (xs : List A) (i : ℕ) (z : A) → i < length xs → flat_map g (take i xs) ++ g (get_or xs i z) ≡ flat_map g (take (i + 1) xs)
unfolding flat_map
flat_more {A} {C} g xs i z h = rw add-one (go xs i h)
  where
    go : (ys : List A) (j : ℕ) → j < length ys → flat_map g (take j ys) ++ g (get_or ys j z) ≡ flat_map g (take (suc j) ys)
    go [] j k = absurd (not-suc-le-zero k)
    go (y ∷ ys) zero k = sym (append-nil (g y))
    go (y ∷ ys) (suc j) k = append_assoc (g y) (flat_map g (take j ys)) (g (get_or ys j z)) ∙ ap (λ (s : List C). g y ++ s) (go ys j (omega arith))
