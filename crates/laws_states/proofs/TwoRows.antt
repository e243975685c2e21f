-- A buffer of two rows that is full: both go where more than must stay is still to come, else the first one; and zeros stay behind.
-- Assumes nothing.
use mathlib.Core.Path.{◌≡◌, sym, ap, ◌∙◌}
use mathlib.Core.List.{List, [], ◌∷◌, ◌++◌, append-nil}
use Prim.Native.Nat.{ℕ, zero, suc, ◌+◌, ◌-◌, ◌*◌, ◌≤◌, ◌<◌}
use native.Mathlib.Nat.{add-zero, sub-zero}
use native.Mathlib.Omega.{arith}
use lib.ListN.{length, take, drop, length-drop, take-append-drop}
use lib.Seq.{paste, take_all, length-take-le}
use Rattle.definitions.specs.Words.{pad}
use Rattle.laws_words.specs.Bytes.{zeros, over}
use Rattle.laws_blocks.specs.Chain.{spare}
use Rattle.laws_states.specs.Buffer.{Machine, Held, behind, pending, moved, gone, pushed, after}
use Rattle.laws_blocks.proofs.Rows.{le_spare, spare_late, spare_is}
use Rattle.laws_states.proofs.Buffers.{Lawful, Sound, pending_moved, length_pending}
use Rattle.laws_states.proofs.Steps.{gone_fits, gone_few, kept, emptied}
use Rattle.laws_states.proofs.Tails.{buffer_padded}

-- p bytes are held, n come, and x of these do not fit
module _ (st need : ℕ) (some : 0 < st) (narrow : need < st) (p n x : ℕ) (held : p ≤ 2 * st) (fill : 2 * st - p ≤ n) (left : x ≡ n - (2 * st - p)) where
  pub spare_both : need < x → 2 + spare st need x ≡ spare st need (p + n)
  spare_both h =
      let two : st * 2 ≡ 2 * st = omega arith in
      let e : p + n - st * 2 ≡ x = omega arith in
      ap (λ (k : ℕ). 2 + spare st need k) (sym e) ∙ spare_late st need some (p + n) 2 (le_spare st need some (p + n) 2 (omega arith))

  pub spare_half : 0 < x → x ≤ need → 1 + 0 ≡ spare st need (p + n)
  spare_half h g = sym (spare_is st need some (p + n) 1 (omega arith) (omega arith))

-- the buffer is full: what the state is once both rows went, or the first one and the second moved to the front
module _ {L : Type 0} (m : Machine L) (lawful : Lawful m) (two : m.room ≡ 2 * m.row) (s : Held L) (sized : length s.buf ≡ m.room) (full : s.buflen ≡ m.room) where
  open lawful use {some, run_front}

  all_held : pending s ≡ s.buf
  unfolding pending
  all_held = take_all s.buflen s.buf (omega arith)

  pub both_gone : {l : L} {b : List ℕ} → l ≡ m.run s.at s.count s.buf 2 → b ≡ zeros m.room
      → record { at = l; count = s.count + m.step * 2; buf = b; buflen = 0 } ≡ moved m s (pending s) 2
  both_gone {l} {b} e f = rw all_held (emptied m lawful s s.buf l b 2 (omega arith) (omega arith) e f)

  pub half_gone : {l : L} {z b : List ℕ} → l ≡ m.run s.at s.count (take m.row s.buf) 1 → z ≡ zeros m.room
      → b ≡ paste z 0 (take m.row (drop m.row s.buf)) (length (take m.row (drop m.row s.buf)))
      → record { at = l; count = s.count + m.step * 1; buf = b; buflen = m.row } ≡ moved m s (pending s) 1
  half_gone {l} {z} {b} e f g =
      let front : length (take m.row s.buf) ≡ m.row = length-take-le m.row s.buf (omega arith) in
      let first : l ≡ m.run s.at s.count s.buf 1 =
      e ∙ sym (run_front s.at s.count (take m.row s.buf) (drop m.row s.buf) 1 (omega arith))
      ∙ ap (λ (d : List ℕ). m.run s.at s.count d 1) (take-append-drop m.row s.buf) in
      let one : m.row * 1 ≡ m.row = omega arith in
      let back : take m.row (drop m.row s.buf) ≡ drop (m.row * 1) s.buf =
      take_all m.row (drop m.row s.buf) (rw length-drop (omega arith)) ∙ ap (λ (k : ℕ). drop k s.buf) (sym one) in
      let second : b ≡ paste (zeros m.room) 0 (drop (m.row * 1) s.buf) (length (drop (m.row * 1) s.buf)) =
      g ∙ (λ i. paste (f i) 0 (back i) (length (back i))) in
      let stays : m.row ≡ length s.buf - m.row * 1 = omega arith in
      (λ i. record { at = l; count = s.count + m.step * 1; buf = b; buflen = stays i })
      ∙ kept m lawful s s.buf l b 1 (omega arith) first second
      ∙ ap (λ (d : List ℕ). moved m s d 1) (sym all_held)

-- a buffer that is zero behind its bytes stays so, whatever goes
module _ {L : Type 0} (m : Machine L) (lawful : Lawful m) where
  pub zeros_behind_moved : (s : Held L) (a : List ℕ) (k : ℕ) → s.buf ≡ pad m.room (pending s) → (moved m s (pending s ++ a) k).buf ≡ pad m.room (pending (moved m s (pending s ++ a) k))
  unfolding moved
  zeros_behind_moved s a k e =
      ap (λ (b : List ℕ). over (drop (m.row * k) (pending s ++ a)) (behind m.room k b)) e
      ∙ buffer_padded m.room k m.row (pending s) a
      ∙ ap (pad m.room) (sym (pending_moved m lawful s (pending s ++ a) k))

  -- no bytes change nothing
  pub gone_held : (p : ℕ) → p ≤ m.room → gone m p p ≡ 0
  gone_held zero h = gone_few m lawful 0 0 (omega arith)
  gone_held (suc p) h = gone_fits m lawful (suc p) (suc p) (omega arith) h

  pub pushed_none : (s : Held L) → Sound m s → pushed m s [] ≡ s
  unfolding pushed moved over behind
  pushed_none s sound =
      let l = length_pending m lawful s sound in
      let z : m.row * 0 ≡ 0 = omega arith in
      let y : m.step * 0 ≡ 0 = omega arith in
      let none = gone_held (length (pending s)) (omega (arith, sound.held)) in
      rw (append-nil (pending s), none, z, y, lawful.run_none, add-zero, sub-zero, l) (unfold pending in rw (take-append-drop s.buflen s.buf))

  pub zeros_behind : (s : Held L) (ps : List (List ℕ)) → s.buf ≡ pad m.room (pending s) → (after m s ps).buf ≡ pad m.room (pending (after m s ps))
  unfolding after pushed
  zeros_behind s [] e = e
  zeros_behind s (a ∷ ps) e =
      zeros_behind (pushed m s a) ps (zeros_behind_moved s a (gone m (length (pending s)) (length (pending s ++ a))) e)
