-- When a state is in range, case by case, and what it then keeps, for any bounds.
-- Assumes nothing.
use mathlib.Core.Path.{◌≡◌, sym, ◌∙◌}
use mathlib.Core.Bool.{Bool, true, false, not, ◌&&◌, and-eq-true_iff}
use Prim.Native.Nat.{ℕ, ◌<◌, ◌≤◌}
use borrow.Author.Tests.{not-true, not-false, le-leb, lt-leb, leb-true}
use lib.Dec.{leb}
use Rattle.refusals.specs.Numbers.{is_length}
use Rattle.refusals.proofs.Lengths.{length_is, length_bounds}
use Rattle.members.specs.Keeper.{Bounds, total_of, key_row, range_of, Keeper, in_range}
use Rattle.members.specs.Sizes.{bounds_of, in_bounds}
use Rattle.members.specs.declared.bounds.Bounds as code
use Rattle.members.specs.declared.bounds.Sizes.{Sizes}

module _ (z : Bounds) (n b t : ℕ) (keyed : Bool) where
  module _ {q : Bool} (e : q ≡ is_length z.most n) where
    pub range_digest : not q ≡ true → false ≡ range_of z n b t keyed
    unfolding range_of
    range_digest h = rw (sym e ∙ not-true q h)

    module _ (h : not q ≡ false) where
      pub range_overfull : z.room < b → false ≡ range_of z n b t keyed
      unfolding range_of
      range_overfull g = rw (sym e ∙ not-false q h, lt-leb b z.room g)

      pub range_over : b ≤ z.room → z.limit < total_of z t b → false ≡ range_of z n b t keyed
      unfolding range_of
      range_over g f = rw (sym e ∙ not-false q h, le-leb b z.room g, lt-leb (total_of z t b) z.limit f)

      pub range_last : b ≤ z.room → total_of z t b ≤ z.limit → leb (key_row z keyed) (total_of z t b) ≡ range_of z n b t keyed
      unfolding range_of
      range_last g f = rw (sym e ∙ not-false q h, le-leb b z.room g, le-leb (total_of z t b) z.limit f)

  -- what a state in range keeps
  pub record InRange : Type 0 where
    pub least : 1 ≤ n
    pub most : n ≤ z.most
    pub held : b ≤ z.room
    pub within : total_of z t b ≤ z.limit
    pub front : key_row z keyed ≤ total_of z t b

  pub in_range_lem : range_of z n b t keyed ≡ true → InRange
  unfolding range_of
  in_range_lem e =
      let fronted = leb (key_row z keyed) (total_of z t b) in
      let rest = leb (total_of z t b) z.limit && fronted in
      let p = (and-eq-true_iff (is_length z.most n) (leb b z.room && rest)).0 e in
      let d = length_bounds z.most n p.0 in
      let q = (and-eq-true_iff (leb b z.room) rest).0 p.1 in
      let r = (and-eq-true_iff (leb (total_of z t b) z.limit) fronted).0 q.1 in
      record {
        least = d.0;
        most = d.1;
        held = leb-true b z.room q.0;
        within = leb-true (total_of z t b) z.limit r.0;
        front = leb-true (key_row z keyed) (total_of z t b) r.1;
      }

  -- fields in their ranges are in range
  pub ranged : InRange → range_of z n b t keyed ≡ true
  unfolding range_of
  ranged r =
      rw (length_is z.most n r.least r.most, le-leb b z.room r.held, le-leb (total_of z t b) z.limit r.within)
      (le-leb (key_row z keyed) (total_of z t b) r.front)

-- of sizes that passed the test
pub kept_in : (z : code.Bounds) (s : Sizes) → in_bounds z s ≡ true → InRange (bounds_of z) s.hash_length s.buflen s.count s.is_keyed
kept_in z s = in_range_lem (bounds_of z) s.hash_length s.buflen s.count s.is_keyed

-- of a state that passed the test
module _ {S L : Type 0} (k : Keeper S L) (s : S) where
  abbrev pub Kept : Type 0
  Kept = InRange k.bounds (k.hash_length s) (k.core s).buflen (k.core s).count (k.keyed s)

  pub kept : {good : Bool} → good ≡ in_range k s → not good ≡ false → Kept
  kept {good} e h = in_range_lem k.bounds (k.hash_length s) (k.core s).buflen (k.core s).count (k.keyed s) (sym e ∙ not-false good h)
