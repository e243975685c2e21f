-- The block at an offset, case by case, and at the offsets of a run over rows of `row` bytes.
-- Assumes nothing.
use mathlib.Core.Path.{◌≡◌, refl, sym, ap, ◌∙◌}
use mathlib.Core.Bool.{Bool, true, false}
use mathlib.Core.List.{List}
use mathlib.Core.Logic.{⊎_elim}
use Prim.Native.Nat.{ℕ, suc, ◌+◌, ◌-◌, ◌*◌, ◌<◌, ◌≤◌, min}
use native.Mathlib.Nat.{eq-or-lt_of_le, mul-le-mul_right}
use native.Mathlib.Omega.{arith}
use borrow.Author.Tests.{lt-ltb, le-ltb, leb-true, leb-false}
use lib.Dec.{leb}
use lib.ListN.{length, take, drop, length-take, length-drop}
use lib.Seq.{take_all, length-take-le}
use Rattle.definitions.specs.Words.{pad}
use Rattle.definitions.proofs.Lengths.{length_pad}
use Rattle.laws_blocks.specs.Chain.{spare, block_at}
use Rattle.laws_blocks.specs.Offsets.{padded_buffer, final_block}
use Rattle.laws_words.proofs.Bytes.{pad_whole}
use Rattle.laws_blocks.proofs.Rows.{spare_fits, spare_below, spare_late, spare_none, le_spare}

module _ (bb : ℕ) where
  module _ (d : List ℕ) (offset : ℕ) {x : List ℕ} (e : x ≡ drop offset d) where
    pub buffer_short : (b : List ℕ) → length x < bb → pad bb x ≡ padded_buffer bb d offset b
    unfolding padded_buffer
    buffer_short b h = rw (← e, lt-ltb (length x) bb h)

    pub buffer_whole : (b : List ℕ) → bb ≤ length x → b ≡ padded_buffer bb d offset b
    unfolding padded_buffer
    buffer_whole b h = rw (← e, le-ltb (length x) bb h)

    pub block_short : (b : List ℕ) → length x < bb → b ≡ final_block bb d offset b
    unfolding final_block
    block_short b h = rw (← e, lt-ltb (length x) bb h)

    pub block_whole : (b : List ℕ) → bb ≤ length x → take bb x ≡ final_block bb d offset b
    unfolding final_block
    block_whole b h = rw (← e, le-ltb (length x) bb h)

  pub length_buffer : (d : List ℕ) (offset : ℕ) (b : List ℕ) → length b ≡ bb → length (padded_buffer bb d offset b) ≡ bb
  length_buffer d offset b h = split (leb bb (length (drop offset d))) refl
    where
      split : (q : Bool) → leb bb (length (drop offset d)) ≡ q → length (padded_buffer bb d offset b) ≡ bb
      split true e = ap length (sym (buffer_whole d offset refl b (leb-true bb (length (drop offset d)) e))) ∙ h
      split false e =
          let l = leb-false bb (length (drop offset d)) e in
          ap length (sym (buffer_short d offset refl b l)) ∙ length_pad bb (drop offset d) (omega arith)

  -- at the offsets of a run over d, of which block k lies at k rows
  module _ (some_block : 0 < bb) (d : List ℕ) (row : ℕ) (wide : bb ≤ row) where
    some : 0 < row
    some = omega arith

    -- where the input ends before the next block, this is the last one
    pub last_is : (k : ℕ) → k ≤ spare row 0 (length d) → leb (length (drop (row * k) d)) row ≡ true → spare row 0 (length d) ≡ k
    last_is k h e =
        let l : length d - row * k ≤ row = rw (length-drop (row * k) d) at (leb-true (length (drop (row * k) d)) row e) in
        let s = spare_late row 0 some (length d) k h in
        let z = spare_none row 0 some (length d - row * k) (omega arith) in
        omega arith

    -- else one more follows
    pub last_not : (k : ℕ) → leb (length (drop (row * k) d)) row ≡ false → suc k ≤ spare row 0 (length d)
    last_not k e =
        let l : row < length d - row * k = rw (length-drop (row * k) d) at (leb-false (length (drop (row * k) d)) row e) in
        le_spare row 0 some (length d) (suc k) (omega arith)

    -- and then there is a row more
    pub row_more : (k : ℕ) → suc k ≤ spare row 0 (length d) → row * k + row < length d
    row_more k h = let f = spare_fits row 0 some (length d) (suc k) h in omega arith

    length_whole : (k : ℕ) → suc k ≤ spare row 0 (length d) → bb ≤ length (drop (row * k) d)
    length_whole k h = let f = row_more k h in rw length-drop (omega arith)

    own : (o : ℕ) (b : List ℕ) → bb ≤ length (drop o d) → final_block bb d o b ≡ pad bb (take bb (drop o d))
    own o b h = sym (block_whole d o refl b h) ∙ sym (pad_whole bb (take bb (drop o d)) (length-take-le bb (drop o d) h))

    -- padded first, the block is what is left at the offset, and zeros
    pub ready : (o : ℕ) (z : List ℕ) → final_block bb d o (padded_buffer bb d o z) ≡ pad bb (take bb (drop o d))
    ready o z = split (leb bb (length (drop o d))) refl
      where
        split : (q : Bool) → leb bb (length (drop o d)) ≡ q → final_block bb d o (padded_buffer bb d o z) ≡ pad bb (take bb (drop o d))
        split true e = own o (padded_buffer bb d o z) (leb-true bb (length (drop o d)) e)
        split false e =
            let h = leb-false bb (length (drop o d)) e in
            sym (block_short d o refl (padded_buffer bb d o z) h) ∙ sym (buffer_short d o refl z h) ∙ ap (pad bb) (sym (take_all bb (drop o d) (omega arith)))

    -- the buffer being padded for the last block, each block is the input's, padded
    pub block_at_lem : (k : ℕ) (z : List ℕ) → k ≤ spare row 0 (length d)
        → final_block bb d (row * k) (padded_buffer bb d (row * spare row 0 (length d)) z) ≡ pad bb (block_at bb row d k)
    unfolding block_at
    block_at_lem k z h =
        ⊎_elim (λ e. rw (← e) (ready (row * k) z)) (λ l. own (row * k) (padded_buffer bb d (row * spare row 0 (length d)) z) (length_whole k l)) (eq-or-lt_of_le h)

    -- the count of a block that is not the last, of a block's bytes, and that it fits
    pub length_block : (k : ℕ) → min bb (length (drop (row * k) d)) ≡ length (block_at bb row d k)
    unfolding block_at
    length_block k = sym (length-take bb (drop (row * k) d))

    pub short_block : (k : ℕ) → length (block_at bb row d k) ≤ bb
    unfolding block_at
    short_block k = simp length-take (omega arith)

    pub whole_block : (k : ℕ) → suc k ≤ spare row 0 (length d) → length (block_at bb row d k) ≡ bb
    unfolding block_at
    whole_block k h = length-take-le bb (drop (row * k) d) (length_whole k h)

    pub count_fits : (limit t k : ℕ) → k ≤ spare row 0 (length d) → t + length d < limit → t + bb * k + length (block_at bb row d k) < limit
    unfolding block_at
    count_fits limit t k h f =
        let b = spare_below row 0 some (length d) k h in
        let w : bb * k ≤ row * k = mul-le-mul_right k wide in
        let l : length (take bb (drop (row * k) d)) ≤ length d - row * k = simp (length-take, length-drop) (omega arith) in
        omega arith
