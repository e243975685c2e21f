-- An array that a closure makes place by place, where a call changes no capture.
-- Assumes nothing.
use mathlib.Core.Path.{◌≡◌, refl, sym, ap, ◌∙◌, subst}
use mathlib.Core.List.{List, map}
use Prim.Native.Nat.{ℕ, zero, suc, ◌+◌, ◌<◌}
use native.Mathlib.Nat.{not-suc-le-zero, le_of_suc-le-suc, add-zero, zero-add}
use native.Mathlib.Omega.{arith}
use denote.Param.Members.{Mut, Called}
use Rattle.std.specs.Array.{IsFromFnResult, IsFromFnResultFrom}
use Rattle.definitions.specs.Words.{◌!◌, from}
use Rattle.laws_words.proofs.Lists.{by_places}

module _ {F : Type 0} (g : Mut F (ℕ × Unit {0}) ℕ) (value : ℕ → ℕ) (f : F)
    (call : (i y : ℕ) (q : F) → Called g f (i, tt) y q → (y ≡ value i) × (q ≡ f)) where
  made_from : (ys : List ℕ) (n i : ℕ) (p : F) → p ≡ f → IsFromFnResultFrom g p ys i n → (k : ℕ) → k < n → ys ! (i + k) ≡ value (i + k)
  made_from ys zero i p e made k h = absurd (not-suc-le-zero h)
  made_from ys (suc n) i p e (q, y, here, called, rest) zero h =
      let one = call i y q (subst (λ (s : F). Called g s (i, tt) y q) e called) in
      ap (λ (j : ℕ). ys ! j) (add-zero i) ∙ here.1 0 ∙ one.0 ∙ ap value (sym (add-zero i))
  made_from ys (suc n) i p e (q, y, here, called, rest) (suc k) h =
      let one = call i y q (subst (λ (s : F). Called g s (i, tt) y q) e called) in
      let next : i + suc k ≡ i + 1 + k = omega arith in
      ap (λ (j : ℕ). ys ! j) next ∙ made_from ys n (i + 1) q one.1 rest k (le_of_suc-le-suc h) ∙ ap value (sym next)

  -- the list that the calls below n gave
  pub made : (ys : List ℕ) (n : ℕ) → IsFromFnResult g f ys n → ys ≡ map value (from 0 n)
  made ys n r =
      by_places n ys value r.long (λ k h. ap (λ (j : ℕ). ys ! j) (sym (zero-add k)) ∙ made_from ys n 0 f refl r.each k h ∙ ap value (zero-add k))
