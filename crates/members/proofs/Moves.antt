-- What code does to a state, step by step: bytes are stored, full rows go, rows go straight from the input; and what an update hands back.
-- Assumes nothing.
use mathlib.Core.Path.{◌≡◌, sym, ap, ◌∙◌}
use mathlib.Core.List.{List, [], ◌++◌}
use Prim.Native.Nat.{ℕ, ◌+◌, ◌*◌, ◌<◌, ◌≤◌}
use native.Mathlib.Omega.{arith}
use lib.ListN.{length, take, drop, length-append}
use lib.Seq.{paste, take_all}
use Rattle.laws_words.specs.Bytes.{zeros}
use Rattle.laws_blocks.specs.Chain.{spare}
use Rattle.laws_states.specs.Buffer as buffer
use Rattle.laws_states.proofs.Buffers.{Sound}
use Rattle.laws_states.proofs.Buffers as buffers
use Rattle.laws_states.proofs.Steps as steps
use Rattle.laws_states.proofs.TwoRows as two_rows
use Rattle.members.specs.Keeper.{Keeper, pending, moved, pushed}
use Rattle.members.proofs.Laws.{KeeperLaws}

module _ {S L : Type 0} (m : Keeper S L) (laws : KeeperLaws m) (s : S) where
  open m use {machine, core, holding}
  open laws use {lawful, holding_core}

  -- the state with other parts
  abbrev pub parts : L → ℕ → List ℕ → ℕ → S
  parts l t b n = holding s (record { at = l; count = t; buf = b; buflen = n })

  pub filled : Sound machine (core s) → (a : List ℕ) {r : List ℕ} → r ≡ paste (core s).buf (core s).buflen a (length a)
      → parts (core s).at (core s).count r ((core s).buflen + length a) ≡ moved m s (pending m s ++ a) 0
  filled sound a {r} e = ap (holding s) (steps.stored machine lawful (core s) a r sound e)

  -- a full buffer: its one row goes, or both its rows, or the first of them
  module _ (sized : length (core s).buf ≡ machine.room) (full : (core s).buflen ≡ machine.room) where
    pub one_gone : machine.room ≡ machine.row → {l : L} {b : List ℕ} → l ≡ machine.run (core s).at (core s).count (core s).buf 1 → b ≡ zeros machine.room
        → parts l ((core s).count + machine.step * 1) b 0 ≡ moved m s (pending m s) 1
    unfolding buffer.pending
    one_gone one {l} {b} e f =
        let all : take (core s).buflen (core s).buf ≡ (core s).buf = take_all (core s).buflen (core s).buf (omega arith) in
        rw all (ap (holding s) (steps.emptied machine lawful (core s) (core s).buf l b 1 (omega arith) (omega arith) e f))

    module _ (two : machine.room ≡ 2 * machine.row) where
      pub both_gone : {l : L} {b : List ℕ} → l ≡ machine.run (core s).at (core s).count (core s).buf 2 → b ≡ zeros machine.room
          → parts l ((core s).count + machine.step * 2) b 0 ≡ moved m s (pending m s) 2
      both_gone e f = ap (holding s) (two_rows.both_gone machine lawful two (core s) sized full e f)

      pub half_gone : {l : L} {z b : List ℕ} → l ≡ machine.run (core s).at (core s).count (take machine.row (core s).buf) 1 → z ≡ zeros machine.room
          → b ≡ paste z 0 (take machine.row (drop machine.row (core s).buf)) (length (take machine.row (drop machine.row (core s).buf)))
          → parts l ((core s).count + machine.step * 1) b machine.row ≡ moved m s (pending m s) 1
      half_gone e f g = ap (holding s) (two_rows.half_gone machine lawful two (core s) sized full e f g)

  -- an empty buffer, and whole rows
  module _ (a : List ℕ) (k : ℕ) (empty : (core s).buflen ≡ 0) (whole : length a ≡ machine.row * k) where
    pub rows_none : k ≡ 0 → s ≡ moved m s a k
    rows_none z =
        let none : length a ≡ 0 = whole ∙ ap (λ (j : ℕ). machine.row * j) z ∙ omega arith in
        sym (holding_core s) ∙ ap (holding s) (steps.idle machine lawful (core s) a empty none) ∙ ap (moved m s a) (sym z)

    pub rows_some : {l : L} {b : List ℕ} (n : ℕ) → n ≡ machine.step * k → (k ≡ 0 → ⊥) → l ≡ machine.run (core s).at (core s).count a k → b ≡ zeros machine.room
        → parts l ((core s).count + n) b (core s).buflen ≡ moved m s a k
    rows_some {l} {b} n step some e f =
        (λ i. parts l ((core s).count + step i) b (empty i)) ∙ ap (holding s) (steps.emptied machine lawful (core s) a l b k (omega arith) whole e f)

  -- what an update hands back, by the road that it took
  module _ (a : List ℕ) {r : S} where
    pub taken_long : (core s).buflen ≡ 0 → r ≡ moved m s (pending m s ++ a) (spare machine.row machine.need (length a)) → r ≡ pushed m s a
    unfolding buffer.pending
    taken_long z f = let none : pending m s ≡ [] = rw z in f ∙ ap (holding s) (sym (steps.pushed_empty machine lawful (core s) a none))

    module _ (sound : Sound machine (core s)) where
      pub taken_fill : 0 < (core s).buflen → (core s).buflen + length a ≤ machine.room → r ≡ moved m s (pending m s ++ a) 0 → r ≡ pushed m s a
      taken_fill some fits f = f ∙ ap (holding s) (sym (steps.pushed_fits machine lawful (core s) a sound some fits))

      pub taken_spill : machine.room < (core s).buflen + length a → r ≡ moved m s (pending m s ++ a) (spare machine.row machine.need ((core s).buflen + length a)) → r ≡ pushed m s a
      taken_spill more f = f ∙ ap (holding s) (sym (steps.pushed_most machine lawful (core s) a sound more))

      -- where the buffer holds no more than must stay, and a row
      pub taken_tight : machine.room ≤ machine.need + machine.row → (k : ℕ) → k ≡ spare machine.row machine.need ((core s).buflen + length a)
          → r ≡ moved m s (pending m s ++ a) k → r ≡ pushed m s a
      taken_tight tight k h f =
          let l : length (pending m s ++ a) ≡ (core s).buflen + length a = rw (length-append (pending m s) a, buffers.length_pending machine lawful (core s) sound) in
          f ∙ (λ i. moved m s (pending m s ++ a) ((h ∙ ap (spare machine.row machine.need) (sym l)) i)) ∙ ap (holding s) (sym (buffers.pushed_tight machine lawful tight (core s) a))
