-- What code does to a buffered state, step by step: store, take rows, spill. Over any lawful machine.
-- Assumes nothing.
use mathlib.Core.Path.{◌≡◌, refl}
use Prim.Native.Nat.{ℕ, zero, suc, ◌+◌, ◌-◌, ◌*◌, ◌≤◌, ◌<◌}
use native.Mathlib.Nat.{add-zero, zero-add, sub-zero, not-suc-le-zero, suc-ne-zero}
use native.Mathlib.Omega.{arith}
use mathlib.Core.List.{List, [], ◌∷◌, ◌++◌, append_assoc, append-nil}
use lib.ListN.{length, take, drop, length-append, take-append-drop, drop_of_length-le}
use lib.Seq.{length-take-le, paste, take-length}
use borrow.Author.Tests.{le-leb, lt-leb}
use Rattle.laws_words.specs.Bytes.{zeros, over}
use Rattle.laws_blocks.specs.Chain.{spare}
use Rattle.laws_states.specs.Buffer.{Machine, Held, behind, pending, moved, gone, pushed}
use Rattle.laws_blocks.proofs.Rows.{spare_none}
use Rattle.laws_states.proofs.Buffers.{Lawful, Sound, pending_moved, moved_moved, length_pending}

module _ {L : Type 0} (m : Machine L) (lawful : Lawful m) where
  open lawful use {some, wide, run_none}

  -- a move, and another one of what waits and more
  pub moved_on : (s : Held L) (all b : List ℕ) (k j : ℕ) → m.row * k ≤ length all → moved m (moved m s all k) (pending (moved m s all k) ++ b) j ≡ moved m s (all ++ b) (k + j)
  moved_on s all b k j h = rw (pending_moved m lawful s all k) (moved_moved m lawful s all b k j h)

  -- some held, and all fits: nothing goes
  pub gone_fits : (p n : ℕ) → 0 < p → n ≤ m.room → gone m p n ≡ 0
  unfolding gone
  gone_fits zero n h g = absurd (not-suc-le-zero h)
  gone_fits (suc p) n h g = rw (le-leb n m.room g)

  -- none held, or more than fits: all that may
  pub gone_most : (p n : ℕ) → m.room < n → gone m p n ≡ spare m.row m.need n
  unfolding gone
  gone_most zero n h = refl
  gone_most (suc p) n h = rw (lt-leb n m.room h)

  -- few enough: nothing goes
  pub gone_few : (p n : ℕ) → n ≤ m.need + m.row → gone m p n ≡ 0
  unfolding gone
  gone_few zero n h = spare_none m.row m.need some n h
  gone_few (suc p) n h = rw (le-leb n m.room (omega (arith, wide)))

  -- bytes are stored behind those that wait
  pub stored : (s : Held L) (a r : List ℕ) → Sound m s → r ≡ paste s.buf s.buflen a (length a)
      → record { at = s.at; count = s.count; buf = r; buflen = s.buflen + length a } ≡ moved m s (pending s ++ a) 0
  unfolding moved over behind pending
  stored s a r h e =
      let l : length (take s.buflen s.buf ++ a) ≡ s.buflen + length a = rw (length-append (take s.buflen s.buf) a, length-take-le s.buflen s.buf (omega arith)) in
      let z : m.row * 0 ≡ 0 = omega arith in
      let y : m.step * 0 ≡ 0 = omega arith in
      rw (z, y, e, take-length a, add-zero, sub-zero, l, run_none)

  -- k rows go, and what stays is stored over zeros
  pub kept : (s : Held L) (all : List ℕ) (w : L) (b : List ℕ) (k : ℕ) → 0 < k → w ≡ m.run s.at s.count all k
      → b ≡ paste (zeros m.room) 0 (drop (m.row * k) all) (length (drop (m.row * k) all))
      → record { at = w; count = s.count + m.step * k; buf = b; buflen = length all - m.row * k } ≡ moved m s all k
  unfolding moved over behind
  kept s all w b zero g e f = absurd (not-suc-le-zero g)
  kept s all w b (suc k) g e f = rw (e, f, take-length, zero-add)

  -- whole rows go, and nothing stays
  pub emptied : (s : Held L) (all : List ℕ) (w : L) (b : List ℕ) (k : ℕ) → 0 < k → length all ≡ m.row * k → w ≡ m.run s.at s.count all k
      → b ≡ zeros m.room → record { at = w; count = s.count + m.step * k; buf = b; buflen = 0 } ≡ moved m s all k
  unfolding moved over behind
  emptied s all w b zero g h e f = absurd (not-suc-le-zero g)
  emptied s all w b (suc k) g h e f =
      let d : drop (m.row * suc k) all ≡ [] = drop_of_length-le all {i = m.row * suc k} (omega arith) in
      let l : length all - m.row * suc k ≡ 0 = omega arith in
      rw (d, l, e, f)

  -- no rows go, and none came
  pub idle : (s : Held L) (a : List ℕ) → s.buflen ≡ 0 → length a ≡ 0 → s ≡ moved m s a 0
  unfolding moved over behind
  idle s [] h g =
      let z : m.row * 0 ≡ 0 = omega arith in
      let y : m.step * 0 ≡ 0 = omega arith in
      rw (z, y, add-zero, run_none, ← h)
  idle s (x ∷ a) h g = absurd (suc-ne-zero (length a) g)

  -- the buffer is filled, j rows of it go, and then comes the rest
  pub spilled : (s f e r : Held L) (x y : List ℕ) (j q : ℕ)
      → f ≡ moved m s (pending s ++ x) 0 → e ≡ moved m f (pending f) j → r ≡ moved m e (pending e ++ y) q
      → m.row * j ≤ length (pending s ++ x) → r ≡ moved m s (pending s ++ (x ++ y)) (j + q)
  spilled s f e r x y j q hf he hr h =
      let all = pending s ++ x in
      let g : e ≡ moved m s all j = rw (he, hf) (rw (append-nil, append-nil, zero-add) at (moved_on s all [] 0 j (omega arith))) in
      rw (hr, g, moved_on s all y j q h, append_assoc (pending s) x y)

  -- nothing waits: rows go straight from the input, and then comes the rest
  pub straight : (s g r : Held L) (a : List ℕ) (q n : ℕ) → n ≡ m.row * q → n ≤ length a → pending s ≡ []
      → g ≡ moved m s (take n a) q → r ≡ moved m g (pending g ++ drop n a) 0 → r ≡ moved m s (pending s ++ a) q
  straight s g r a q n e h none hg hr =
      let l : length (take n a) ≡ n = length-take-le n a h in
      rw (hr, hg, moved_on s (take n a) (drop n a) q 0 (omega arith), take-append-drop n a, add-zero, none)

  -- which rows go, by what is held
  pub pushed_empty : (s : Held L) (a : List ℕ) → pending s ≡ [] → pushed m s a ≡ moved m s (pending s ++ a) (spare m.row m.need (length a))
  unfolding pushed gone
  pushed_empty s a h = rw h

  module _ (s : Held L) (a : List ℕ) (sound : Sound m s) where
    waits : length (pending s ++ a) ≡ s.buflen + length a
    waits = rw (length-append (pending s) a, length_pending m lawful s sound)

    pub pushed_fits : 0 < s.buflen → s.buflen + length a ≤ m.room → pushed m s a ≡ moved m s (pending s ++ a) 0
    unfolding pushed
    pushed_fits h g =
        let l = length_pending m lawful s sound in
        let n = waits in
        rw (gone_fits (length (pending s)) (length (pending s ++ a)) (omega arith) (omega arith))

    pub pushed_most : m.room < s.buflen + length a → pushed m s a ≡ moved m s (pending s ++ a) (spare m.row m.need (s.buflen + length a))
    unfolding pushed
    pushed_most h =
        let n = waits in
        rw (gone_most (length (pending s)) (length (pending s ++ a)) (omega arith), n)
