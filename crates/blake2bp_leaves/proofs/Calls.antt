-- A closure that gives h of its argument and stays as it is: what an array's from_fn and map make by it, and when from_fn may call it.
-- Assumes nothing.
use mathlib.Core.Path.{◌≡◌, sym, ap, subst, ◌∙◌}
use mathlib.Core.List.{List, [], ◌∷◌, map}
use Prim.Native.Nat.{ℕ, zero, suc, ◌+◌, ◌<◌}
use native.Mathlib.Numerals.{add-one}
use native.Mathlib.Omega.{arith}
use lib.ListN.{length, drop, drop_of_length-le}
use lib.Seq.{drop-cons}
use denote.Param.Members.{Mut}
use Rattle.std.specs.Array.{IsFromFnResult, IsFromFnResultFrom, IsMapOf, MapsFrom, index_steps}
use Rattle.std.specs.Iterator.{ActsAs, CallableAtEachTurn}
use Rattle.std.specs.List.{FoldsTo}
use Rattle.definitions.specs.Words.{from}

module _ {F B : Type 0} {g : Mut F (ℕ × Unit {0}) B} {f : F} (h : ℕ → B) (acts : ActsAs g f h) where
  made_from : (ys : List B) (i n : ℕ) → i + n ≡ length ys → IsFromFnResultFrom g f ys i n → drop i ys ≡ map h (from i n)
  made_from ys i zero e r = drop_of_length-le ys (omega arith)
  made_from ys i (suc n) e r =
      let a = acts i r.1 r.0 r.3 in
      let rest : IsFromFnResultFrom g f ys (suc i) n = subst (λ (q : F). IsFromFnResultFrom g q ys (suc i) n) a.0 (rw add-one at r.4) in
      drop-cons ys i r.1 (omega arith) ∙ (λ j. (r.2.0 ∙ a.1) j ∷ made_from ys (suc i) n (omega arith) rest j)

  pub made_by : {ys : List B} {n : ℕ} → IsFromFnResult g f ys n → ys ≡ map h (from 0 n)
  made_by {ys} {n} r = made_from ys 0 n (omega (arith, r.long)) r.each

module _ {F A B : Type 0} {g : Mut F (A × Unit {0}) B} {f : F} (h : A → B) (acts : ActsAs g f h) where
  mapped_from : (xs : List A) (ys : List B) (i n : ℕ) → i + n ≡ length xs → i + n ≡ length ys → MapsFrom g f xs ys i n → drop i ys ≡ map h (drop i xs)
  mapped_from xs ys i zero d e r = drop_of_length-le ys (omega arith) ∙ ap (map h) (sym (drop_of_length-le xs (omega arith)))
  mapped_from xs ys i (suc n) d e r =
      let a = acts r.1 r.2 r.0 r.5 in
      let rest : MapsFrom g f xs ys (suc i) n = subst (λ (q : F). MapsFrom g q xs ys (suc i) n) a.0 (rw add-one at r.6) in
      drop-cons ys i r.2 (omega arith) ∙ (λ j. (r.4.0 ∙ a.1 ∙ ap h (sym r.3.0)) j ∷ mapped_from xs ys (suc i) n (omega arith) (omega arith) rest j)
      ∙ ap (map h) (sym (drop-cons xs i r.1 (omega arith)))

  pub mapped_by : {xs : List A} {ys : List B} {n : ℕ} → length xs ≡ n → IsMapOf g f xs ys n → ys ≡ map h xs
  mapped_by {xs} {ys} {n} l r = mapped_from xs ys 0 n (omega (arith, l)) (omega (arith, r.long)) r.each

-- what stays as it is may be called at each number below n, if it may at each
module _ {P : Type 0} (R : P → ℕ → P → Type 0) (p : P) (stays : (x : ℕ) (q : P) → R p x q → q ≡ p) where
  same : (xs : List ℕ) (q : P) → FoldsTo R p xs q → q ≡ p
  same [] q c = sym c
  same (x ∷ xs) q c = same xs q (subst (λ (k : P). FoldsTo R k xs q) (stays x c.0 c.1) c.2)

  pub serves_below : {Q : P → ℕ → Type 0} {n : ℕ} → ((x : ℕ) → x < n → Q p x) → CallableAtEachTurn (index_steps n) R Q 0 p
  serves_below {Q} may = record {
    at = λ xs t q x u y c e. subst (λ (k : P). Q k x) (sym (same xs q c)) (may x (omega (arith, e.0, e.1)));
  }
