-- The pieces of specs/Halves.antt are F, for any family.
-- Assumes nothing.
use mathlib.Core.Path.{◌≡◌, refl, sym, ap, ◌∙◌}
use mathlib.Core.Bool.{Bool}
use mathlib.Core.List.{List, [], ◌∷◌}
use Prim.Native.Nat.{ℕ, suc, ◌+◌, ◌*◌, ◌/◌, ◌%◌, ◌^◌, ◌<◌}
use native.Mathlib.Nat.{add_comm}
use lib.Pow.{low, high}
use lib.ListN.{length}
use Rattle.definitions.specs.Words.{◌!◌}
use Rattle.definitions.specs.Family.{Family}
use Rattle.definitions.specs.Compress.{row, G, round, rounds_to, ones, F}
use Rattle.laws_words.specs.Halves.{ordered, mixed, columns_of, diagonals_of, initial, fold_halves}
use Rattle.laws_words.proofs.Lists.{by_front}

module _ (f : Family) where
  open f use {w, rounds, IV}

  -- four calls of the mixing function make the columns
  pub columns_is : (x v : List ℕ) {p q r s : List ℕ} → length v ≡ 16
      → p ≡ mixed f (v ! 0) (v ! 4) (v ! 8) (v ! 12) (x ! 0) (x ! 1)
      → q ≡ mixed f (v ! 1) (v ! 5) (v ! 9) (v ! 13) (x ! 2) (x ! 3)
      → r ≡ mixed f (v ! 2) (v ! 6) (v ! 10) (v ! 14) (x ! 4) (x ! 5)
      → s ≡ mixed f (v ! 3) (v ! 7) (v ! 11) (v ! 15) (x ! 6) (x ! 7)
      → p ! 0 ∷ q ! 0 ∷ r ! 0 ∷ s ! 0 ∷ p ! 1 ∷ q ! 1 ∷ r ! 1 ∷ s ! 1 ∷ p ! 2 ∷ q ! 2 ∷ r ! 2 ∷ s ! 2 ∷ p ! 3 ∷ q ! 3 ∷ r ! 3 ∷ s ! 3 ∷ [] ≡ columns_of f x v
  unfolding columns_of G
  columns_is x v l e0 e1 e2 e3 =
      by_front 16 (columns_of f x) v l
      (λ i. e0 i ! 0 ∷ e1 i ! 0 ∷ e2 i ! 0 ∷ e3 i ! 0 ∷ e0 i ! 1 ∷ e1 i ! 1 ∷ e2 i ! 1 ∷ e3 i ! 1 ∷ e0 i ! 2 ∷ e1 i ! 2 ∷ e2 i ! 2 ∷ e3 i ! 2 ∷ e0 i ! 3 ∷ e1 i ! 3 ∷ e2 i ! 3 ∷ e3 i ! 3 ∷ [])

  -- and four the diagonals
  pub diagonals_is : (x v : List ℕ) {p q r s : List ℕ} → length v ≡ 16
      → p ≡ mixed f (v ! 0) (v ! 5) (v ! 10) (v ! 15) (x ! 8) (x ! 9)
      → q ≡ mixed f (v ! 1) (v ! 6) (v ! 11) (v ! 12) (x ! 10) (x ! 11)
      → r ≡ mixed f (v ! 2) (v ! 7) (v ! 8) (v ! 13) (x ! 12) (x ! 13)
      → s ≡ mixed f (v ! 3) (v ! 4) (v ! 9) (v ! 14) (x ! 14) (x ! 15)
      → p ! 0 ∷ q ! 0 ∷ r ! 0 ∷ s ! 0 ∷ s ! 1 ∷ p ! 1 ∷ q ! 1 ∷ r ! 1 ∷ r ! 2 ∷ s ! 2 ∷ p ! 2 ∷ q ! 2 ∷ q ! 3 ∷ r ! 3 ∷ s ! 3 ∷ p ! 3 ∷ [] ≡ diagonals_of f x v
  unfolding diagonals_of G
  diagonals_is x v l e0 e1 e2 e3 =
      by_front 16 (diagonals_of f x) v l
      (λ i. e0 i ! 0 ∷ e1 i ! 0 ∷ e2 i ! 0 ∷ e3 i ! 0 ∷ e3 i ! 1 ∷ e0 i ! 1 ∷ e1 i ! 1 ∷ e2 i ! 1 ∷ e2 i ! 2 ∷ e3 i ! 2 ∷ e0 i ! 2 ∷ e1 i ! 2 ∷ e1 i ! 3 ∷ e2 i ! 3 ∷ e3 i ! 3 ∷ e0 i ! 3 ∷ [])

  pub round_is : (s m v : List ℕ) → diagonals_of f (ordered m s) (columns_of f (ordered m s) v) ≡ round f s m v
  unfolding round columns_of diagonals_of ordered
  round_is s m v = refl

  -- a round more: the message words in the order of its row, the columns and the diagonals
  pub step : (i : ℕ) (m v0 : List ℕ) {s x y z v : List ℕ} → s ≡ row i → v ≡ rounds_to f i m v0 → x ≡ ordered m s
      → y ≡ columns_of f x v → z ≡ diagonals_of f x y → z ≡ rounds_to f (suc i) m v0
  unfolding rounds_to
  step i m v0 {s} r p e g h =
      h ∙ (λ j. diagonals_of f (e j) ((g ∙ (λ k. columns_of f (e k) (p k))) j)) ∙ round_is s m (rounds_to f i m v0)
      ∙ ap (λ (q : List ℕ). round f q m (rounds_to f i m v0)) r

  -- F from its pieces, at a count of two words
  pub F_is : (h m : List ℕ) {v v0 r : List ℕ} (lo hi : ℕ) (last node : Bool) → lo < 2 ^ w
      → v0 ≡ initial f h lo hi (ones f last) (ones f node) → v ≡ rounds_to f rounds m v0 → r ≡ fold_halves h v
      → r ≡ F f h m (lo + hi * 2 ^ w) last node
  unfolding F initial fold_halves
  F_is h m lo hi last node b p q e =
      let l : lo ≡ (lo + hi * 2 ^ w) % 2 ^ w = sym (low hi w b) ∙ ap (λ (n : ℕ). n % 2 ^ w) (add_comm (hi * 2 ^ w) lo) in
      let u : hi ≡ (lo + hi * 2 ^ w) / 2 ^ w = sym (high hi w b) ∙ ap (λ (n : ℕ). n / 2 ^ w) (add_comm (hi * 2 ^ w) lo) in
      e ∙ ap (fold_halves h) (q ∙ ap (rounds_to f rounds m) (p ∙ (λ i. initial f h (l i) (u i) (ones f last) (ones f node))))
