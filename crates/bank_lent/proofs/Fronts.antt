-- A batch goes by its first records alone, as many as are used, and by none where they are too many: so they may be copied, or lent.
-- Assumes nothing.
use mathlib.Core.Path.{◌≡◌, refl, sym, ap, ◌∙◌}
use mathlib.Core.Bool.{Bool, true, false}
use mathlib.Core.List.{List}
use Prim.Native.Nat.{ℕ, ◌≤◌}
use native.Mathlib.Omega.{arith}
use borrow.Author.Tests.{leb-true}
use lib.Dec.{leb}
use lib.ListN.{take}
use Rattle.std.proofs.lemmas.List.{take-take}
use Rattle.bank.specs.Rules.{Kind, update_many, step}
use Rattle.bank.specs.declared.piece.Piece.{Piece}
use Rattle.bank_lent.specs.Forms.{Front, lent}

module _ {X : Type 0} (kind : Kind X) (n most : ℕ) (xs : List X) (d : List ℕ) where
  pub same_records : (ps qs : List Piece) (used : ℕ) → (used ≤ most → take used ps ≡ take used qs) → step kind n most xs (update_many ps used d) ≡ step kind n most xs (update_many qs used d)
  unfolding step
  same_records ps qs used same = split (leb used most) refl
    where
      split : (b : Bool) → leb used most ≡ b → step kind n most xs (update_many ps used d) ≡ step kind n most xs (update_many qs used d)
      split true e = rw (e, same (leb-true used most e))
      split false e = rw e

-- the first records as a list of their own
pub front_serves : {X : Type 0} (kind : Kind X) (n most : ℕ) (xs : List X) (d : List ℕ) (ps qs : List Piece) (used : ℕ) → Front ps used qs
    → step kind n most xs (lent qs d) ≡ step kind n most xs (update_many ps used d)
front_serves kind n most xs d ps qs used f =
    ap (λ (m : ℕ). step kind n most xs (update_many qs m d)) f.1 ∙ same_records kind n most xs d qs ps used (λ _. ap (take used) (sym f.0) ∙ take-take used used ps (omega arith))
