-- A report after a read of the machine's, by what it answered.
-- Assumes nothing.
use mathlib.Core.Path.{◌≡◌, refl, sym, ap, ◌∙◌}
use mathlib.Core.Bool.{Bool, true, false}
use mathlib.Core.List.{List}
use Prim.Native.Nat.{ℕ, zero, suc, min}
use native.Mathlib.Omega.{arith}
use borrow.Author.Tests.{leb-true, leb-false}
use lib.Dec.{leb}
use lib.IntN.{ℤ, pos, negsuc}
use lib.ListN.{length, take}
use lib.Seq.{take_all}
use Rattle.std.specs.Prelude.{Err}
use Rattle.report_text.specs.Answers.{Reading, as_got}
use Rattle.report_text.specs.Reads.{after_reads, came}
use Rattle.report_text.specs.Report.{taken, after_reading}
use Rattle.report_text.specs.declared.report.Report.{Report}

-- no more than there is can be taken
take_least : (n : ℕ) (s : List ℕ) → take (min n (length s)) s ≡ take n s
take_least n s = split (leb n (length s)) refl
  where
    split : (b : Bool) → leb n (length s) ≡ b → take (min n (length s)) s ≡ take n s
    split true e = let h : min n (length s) ≡ n = omega (arith, leb-true n (length s) e) in rw h
    split false e =
        let l = leb-false n (length s) e in
        let h : min n (length s) ≡ length s = omega arith in
        rw h (take_all (length s) s (omega arith) ∙ sym (take_all n s (omega arith)))

module _ (r : Report) (buffer : List ℕ) where
  -- so the reads of a program are reads as the theorems take them
  pub read_as_came : (z : ℤ) → (after_reading r z buffer).report ≡ after_reads r (came z buffer)
  unfolding after_reading after_reads
  read_as_came (negsuc n) = refl
  read_as_came (pos zero) = refl
  read_as_came (pos (suc n)) = refl

  -- every number below 0 is a read that failed, as an Err is
  pub any_failure : (n : ℕ) {E : Type 0} (e : E) → after_reading r (negsuc n) buffer ≡ after_reading r (as_got (Err e)) buffer
  unfolding after_reading
  any_failure n e = refl

  -- a piece of as many bytes as were read
  pub read_took : (n : ℕ) → (n ≡ 0 → ⊥) → ◌≡◌ {A = Reading} record { report = taken r (take (min n (length buffer)) buffer); more = true } (after_reading r (pos n) buffer)
  unfolding after_reading
  read_took zero some = absurd (some refl)
  read_took (suc n) some = ap (λ (a : List ℕ). record { report = taken r a; more = true }) (take_least (suc n) buffer)
