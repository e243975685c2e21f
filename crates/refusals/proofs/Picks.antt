-- A call's answer, test by test: what stands where a test holds, and where it fails.
-- Assumes nothing.
use mathlib.Core.Path.{◌≡◌, refl, sym, ◌∙◌}
use mathlib.Core.Bool.{Bool, true, false, cond, not, ◌&&◌}
use mathlib.Core.List.{List, [], ◌∷◌}
use Prim.Native.Nat.{ℕ}
use borrow.Author.Tests.{not-true, not-false}
use Rattle.refusals.specs.Tests.{Test, tested}

module _ {A : Type 0} (b : Bool) (x y : A) {r : A} where
  pub holds : b ≡ true → r ≡ x → r ≡ cond b x y
  holds e f = rw e f

  pub fails : b ≡ false → r ≡ y → r ≡ cond b x y
  fails e f = rw e f

  -- as code has it: a call answered the test, and was negated
  module _ {good : Bool} (e : good ≡ b) where
    pub passed : not good ≡ false → r ≡ x → r ≡ cond b x y
    passed h f = holds (sym e ∙ not-false good h) f

    pub refused : not good ≡ true → r ≡ y → r ≡ cond b x y
    refused h f = fails (sym e ∙ not-true good h) f

-- the tests of a range, likewise
module _ (b c : Bool) where
  pub and_holds : {r : Bool} → b ≡ true → r ≡ c → r ≡ b && c
  and_holds e f = rw e f

  pub and_fails : b ≡ false → false ≡ b && c
  and_fails e = rw e

  module _ {good : Bool} (e : good ≡ b) where
    pub and_passed : {r : Bool} → not good ≡ false → r ≡ c → r ≡ b && c
    and_passed h f = and_holds (sym e ∙ not-false good h) f

    pub and_refused : not good ≡ true → false ≡ b && c
    and_refused h = and_fails (sym e ∙ not-true good h)

-- a function of an answer
pub tested_ap : {A B : Type 0} (f : A → B) (ts : List Test) (ok : A) (bad : ℕ → A) → f (tested ts ok bad) ≡ tested ts (f ok) (λ n. f (bad n))
tested_ap f [] ok bad = refl
tested_ap f (t ∷ ts) ok bad = split t.holds (tested_ap f ts ok bad)
  where
    split : (b : Bool) → f (tested ts ok bad) ≡ tested ts (f ok) (λ n. f (bad n))
        → f (cond b (tested ts ok bad) (bad t.refusal)) ≡ cond b (tested ts (f ok) (λ n. f (bad n))) (f (bad t.refusal))
    split true e = e
    split false e = refl

-- every test holds
abbrev pub All : List Test → Type 0
All [] = Unit {0}
All (t ∷ ts) = (t.holds ≡ true) × All ts

-- what is so of the answer where all hold, and of each refusal, is so of the answer
pub tested_keeps : {A : Type 0} (Q : A → Type 0) (ts : List Test) (ok : A) (bad : ℕ → A) → (All ts → Q ok) → ((n : ℕ) → Q (bad n)) → Q (tested ts ok bad)
tested_keeps Q [] ok bad f g = f tt
tested_keeps Q (t ∷ ts) ok bad f g = split t.holds refl (λ h. tested_keeps Q ts ok bad h g)
  where
    split : (b : Bool) → t.holds ≡ b → ((All ts → Q ok) → Q (tested ts ok bad)) → Q (cond b (tested ts ok bad) (bad t.refusal))
    split true e k = k (λ h. f (e, h))
    split false e k = g t.refusal

-- two answers of the same tests, one through a function of the other
pub tested_both : {A B : Type 0} (g : A → B) (ts : List Test) {u : B} {v : ℕ → B} {s : A} {w : ℕ → A} → (All ts → u ≡ g s) → ((n : ℕ) → v n ≡ g (w n))
    → tested ts u v ≡ g (tested ts s w)
tested_both g [] f h = f tt
tested_both g (t ∷ ts) {u} {v} {s} {w} f h = split t.holds refl (λ k. tested_both g ts k h)
  where
    split : (b : Bool) → t.holds ≡ b → ((All ts → u ≡ g s) → tested ts u v ≡ g (tested ts s w))
        → cond b (tested ts u v) (v t.refusal) ≡ g (cond b (tested ts s w) (w t.refusal))
    split true e k = k (λ a. f (e, a))
    split false e k = h t.refusal
