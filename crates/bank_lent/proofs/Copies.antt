-- Records that are copied to the front of an array, and why the copy serves as well.
-- Assumes nothing.
use mathlib.Core.Path.{◌≡◌, sym, ap, ◌∙◌}
use mathlib.Core.List.{List, ◌++◌}
use Prim.Native.Nat.{ℕ, ◌≤◌, min}
use native.Mathlib.Omega.{arith}
use lib.ListN.{length, take, drop}
use Rattle.std.proofs.lemmas.List.{take-take, take-append-le, length-take-le, length-append, length-drop}
use Rattle.bank.specs.Rules.{update_many}
use Rattle.bank.specs.Slots.{slots, slot_limit, batch_limit, told}
use Rattle.bank.specs.declared.bank.Bank.{Bank}
use Rattle.bank.specs.declared.piece.Piece.{Piece}
use Rattle.bank_lent.proofs.Fronts.{same_records}

-- the first i records of qs are in their places of ps
pub record Copies (i : ℕ) (ps qs : List Piece) : Type 0 where
  pub same : take i ps ≡ take i qs
  pub whole : length ps ≡ batch_limit
  pub there : i ≤ length qs

-- as many as there are, and as an array has room for, over whatever stood there
pub copies_front : (n : ℕ) (old qs : List Piece) {front : List Piece} → length old ≡ batch_limit → n ≡ min (length qs) batch_limit → front ≡ take n qs
    → Copies n (front ++ drop n old) qs
copies_front n old qs {front} l e f =
    let there : n ≤ length qs = omega (arith, e) in
    let copied : length front ≡ n = ap length f ∙ length-take-le n qs there in
    record {
      same = take-append-le n front (drop n old) (omega (arith, copied)) ∙ ap (take n) f ∙ take-take n n qs (omega arith);
      whole = omega (arith, length-append front (drop n old), length-drop n old, l, e, copied);
      there = there;
    }

-- where all are copied, unless they are more than a batch may have
pub copies_serve : (b : Bank) (i : ℕ) (ps qs : List Piece) (d : List ℕ) → (length qs ≤ batch_limit → length qs ≤ i) → Copies i ps qs
    → told b (update_many ps (length qs) d) ≡ told b (update_many qs (length qs) d)
copies_serve b i ps qs d all c =
    same_records slots slot_limit batch_limit b.slots d ps qs (length qs) (λ l.
    let e : i ≡ length qs = omega (arith, all l, c.there) in
    ap (λ (k : ℕ). take k ps) (sym e) ∙ c.same ∙ ap (λ (k : ℕ). take k qs) e)
