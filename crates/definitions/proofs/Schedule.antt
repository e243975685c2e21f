-- The message schedule: in each of the twelve rounds the row is an order of 0 to 15, and rounds 10 and 11 have the rows of 0 and 1.
-- Assumes nothing: a test that the checker computes.
use mathlib.Core.Path.{◌≡◌, refl}
use mathlib.Core.Bool.{Bool, true, false, ◌&&◌}
use mathlib.Core.List.{List, [], ◌∷◌}
use Prim.Native.Nat.{ℕ, zero, suc, ◌<◌}
use native.Mathlib.Nat.{not-suc-le-zero, le_of_suc-le-suc}
use lib.Dec.{T, ltb, eqb, ltb→lt, eqb→eq, lit<}
use lib.ListN.{length}
use Rattle.definitions.specs.Words.{◌!◌}
use Rattle.definitions.specs.Compress.{SIGMA, row}
use Rattle.definitions.specs.Schedule.{times, Order}

and_l : (a b : Bool) → T (a && b) → T a
and_l true b t = tt
and_l false b t = t

and_r : (a b : Bool) → T (a && b) → T b
and_r true b t = t
and_r false b t = absurd t

-- p holds below n
abbrev up_to : ℕ → (ℕ → Bool) → Bool
up_to zero p = true
up_to (suc n) p = p zero && up_to n (λ i. p (suc i))

up_to_lem : (n : ℕ) (p : ℕ → Bool) → T (up_to n p) → (i : ℕ) → i < n → T (p i)
up_to_lem zero p t i h = absurd (not-suc-le-zero h)
up_to_lem (suc n) p t zero h = and_l (p zero) (up_to n (λ i. p (suc i))) t
up_to_lem (suc n) p t (suc i) h = up_to_lem n (λ j. p (suc j)) (and_r (p zero) (up_to n (λ j. p (suc j))) t) i (le_of_suc-le-suc h)

-- all numbers of s are below 16
abbrev all_below : List ℕ → Bool
all_below [] = true
all_below (x ∷ s) = ltb x 16 && all_below s

all_below_lem : (s : List ℕ) → T (all_below s) → (i : ℕ) → s ! i < 16
all_below_lem [] t i = lit< tt
all_below_lem (x ∷ s) t zero = ltb→lt x 16 (and_l (ltb x 16) (all_below s) t)
all_below_lem (x ∷ s) t (suc i) = all_below_lem s (and_r (ltb x 16) (all_below s) t) i

-- the test, and that what passes it is an order
abbrev is_order : List ℕ → Bool
is_order s = eqb (length s) 16 && (all_below s && up_to 16 (λ k. eqb (times k s) 1))

order : (s : List ℕ) → T (is_order s) → Order s
order s t =
    let q : Bool = up_to 16 (λ k. eqb (times k s) 1) in
    let u = and_r (eqb (length s) 16) (all_below s && q) t in
    record {
      sixteen = eqb→eq (length s) 16 (and_l (eqb (length s) 16) (all_below s && q) t);
      below = all_below_lem s (and_l (all_below s) q u);
      once = λ k h. eqb→eq (times k s) 1 (up_to_lem 16 (λ j. eqb (times j s) 1) (and_r (all_below s) q u) k h);
    }

pub schedule : ((i : ℕ) → i < 12 → Order (row i)) × (row 10 ≡ row 0) × (row 11 ≡ row 1)
unfolding SIGMA times
schedule = (λ i h. order (row i) (up_to_lem 12 (λ j. is_order (row j)) tt i h), refl, refl)
