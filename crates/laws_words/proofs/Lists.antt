-- Lists by their elements.
-- Assumes nothing.
use mathlib.Core.Path.{◌≡◌, refl, sym, ap, ◌∙◌}
use mathlib.Core.List.{List, ◌∷◌, map}
use mathlib.Core.Logic.{⊎_elim}
use Prim.Native.Nat.{ℕ, zero, suc, ◌+◌, ◌<◌}
use native.Mathlib.Nat.{le_of_suc-le-suc, eq-or-lt_of_le}
use native.Mathlib.Omega.{arith}
use lib.ListN.{length, drop, drop_of_length-le, set}
use lib.Seq.{drop-cons, get_or-set_same, get_or-set_other}
use Rattle.definitions.specs.Words.{◌!◌, from}

drop_from : (n i : ℕ) (l : List ℕ) (g : ℕ → ℕ) → length l ≡ i + n → ((k : ℕ) → k < i + n → l ! k ≡ g k) → drop i l ≡ map g (from i n)
drop_from zero i l g e h = drop_of_length-le l {i = i} (omega arith)
drop_from (suc n) i l g e h =
    drop-cons l i 0 (omega arith)
    ∙ (λ j. h i (omega arith) j ∷ drop_from n (suc i) l g (omega arith) (λ k b. h k (omega arith)) j)

-- a list of n elements, where the element k is g k
pub by_places : (n : ℕ) (l : List ℕ) (g : ℕ → ℕ) → length l ≡ n → ((k : ℕ) → k < n → l ! k ≡ g k) → l ≡ map g (from 0 n)
by_places n l g e h = drop_from n 0 l g (omega arith) (λ k b. h k (omega arith))

-- a list of n elements is its n elements, written out
pub written : (n : ℕ) (l : List ℕ) → length l ≡ n → l ≡ map (λ k. l ! k) (from 0 n)
written n l e = by_places n l (λ k. l ! k) e (λ k b. refl)

-- what F makes of a list of n elements is what it makes of its elements, written out
pub by_front : (n : ℕ) (F : List ℕ → List ℕ) (s : List ℕ) {l : List ℕ} → length s ≡ n → l ≡ F (map (λ k. s ! k) (from 0 n)) → l ≡ F s
by_front n F s e p = p ∙ ap F (sym (written n s e))

-- one place more of a list is right
pub set_more : (l : List ℕ) (i x : ℕ) (g : ℕ → ℕ) → i < length l → x ≡ g i → ((k : ℕ) → k < i → l ! k ≡ g k) → (k : ℕ) → k < suc i → set l i x ! k ≡ g k
set_more l i x g b e h k c =
    ⊎_elim (λ p. ap (λ (n : ℕ). set l i x ! n) p ∙ get_or-set_same l i x 0 b ∙ e ∙ ap g (sym p))
    (λ p. get_or-set_other l i k x 0 (λ q. omega arith) ∙ h k p)
    (eq-or-lt_of_le (le_of_suc-le-suc c))
