-- The laws of a buffered state, over any lawful machine.
-- Assumes nothing.
use mathlib.Core.Path.{◌≡◌, refl, sym, ◌∙◌}
use Prim.Native.Nat.{ℕ, zero, suc, ◌+◌, ◌-◌, ◌*◌, ◌≤◌, ◌<◌}
use native.Mathlib.Nat.{add-zero, add-suc, le_refl, le_trans, mul_assoc}
use native.Mathlib.Omega.{arith}
use mathlib.Core.Bool.{Bool, true, false, cond}
use mathlib.Core.List.{List, [], ◌∷◌, ◌++◌, append_assoc, append-nil}
use lib.ListN.{length, drop, length-append, length-drop}
use lib.Seq.{drop-drop, drop-append-le, drop-append-add, take_at, length-take-le}
use lib.Dec.{leb}
use borrow.Author.Tests.{leb-true}
use Rattle.laws_blocks.specs.Chain.{spare}
use Rattle.laws_states.specs.Buffer.{Machine, Held, behind, joined, pending, moved, gone, pushed, after, fresh, closed, tally}
use Rattle.laws_words.specs.Bytes.{over}
use Rattle.laws_words.proofs.Bytes.{length_zeros}
use Rattle.laws_blocks.proofs.Rows.{spare_below, spare_left, spare_late, spare_none, spare_more}

-- what a machine owes
pub record Lawful {L : Type 0} (m : Machine L) : Type 0 where
  pub some : 0 < m.row
  pub wide : m.need + m.row ≤ m.room
  pub run_none : (l : L) (t : ℕ) (d : List ℕ) → m.run l t d 0 ≡ l
  pub run_more : (l : L) (t : ℕ) (d : List ℕ) (j k : ℕ) → m.run (m.run l t d j) (t + m.step * j) (drop (m.row * j) d) k ≡ m.run l t d (j + k)
  pub run_front : (l : L) (t : ℕ) (a b : List ℕ) (k : ℕ) → m.row * k ≤ length a → m.run l t (a ++ b) k ≡ m.run l t a k

-- what an answer owes: it may be asked for after any rows that may go
pub record Late {L D : Type 0} (m : Machine L) (close : L → ℕ → List ℕ → D) : Type 0 where
  pub late : (l : L) (t : ℕ) (d : List ℕ) (k : ℕ) → k ≤ spare m.row m.need (length d) → close (m.run l t d k) (t + m.step * k) (drop (m.row * k) d) ≡ close l t d

drop_over : (n : ℕ) (p b : List ℕ) → length p ≤ n → drop n (p ++ drop (length p) b) ≡ drop n b
drop_over n p b h =
    let e : n ≡ length p + (n - length p) = omega arith in
    rw (e, drop-append-add, drop-drop)

-- a state is in its ranges
pub record Sound {L : Type 0} (m : Machine L) (s : Held L) : Type 0 where
  pub sized : length s.buf ≡ m.room
  pub held : s.buflen ≤ m.room

module _ {L : Type 0} (m : Machine L) (lawful : Lawful m) where
  open lawful use {some, wide, run_none, run_more, run_front}

  -- the bytes that wait in a moved state
  pub pending_moved : (s : Held L) (all : List ℕ) (k : ℕ) → pending (moved m s all k) ≡ drop (m.row * k) all
  unfolding pending moved over
  pending_moved s all k = take_at (drop (m.row * k) all) _ (length all - m.row * k) (length-drop (m.row * k) all)

  buf_moved : (p q b : List ℕ) (k j : ℕ) → over (drop (m.row * j) (p ++ q)) (behind m.room j (over p (behind m.room k b))) ≡ over (drop (m.row * j) (p ++ q)) (behind m.room (k + j) b)
  unfolding over behind
  buf_moved p q b k zero =
      let e : m.row * 0 ≡ 0 = omega arith in
      rw (add-zero, e, drop_over (length (p ++ q)) p (behind m.room k b) (simp length-append (omega arith)))
  buf_moved p q b k (suc j) = rw add-suc

  -- two moves are one
  pub moved_moved : (s : Held L) (all b : List ℕ) (k j : ℕ) → m.row * k ≤ length all → moved m (moved m s all k) (drop (m.row * k) all ++ b) j ≡ moved m s (all ++ b) (k + j)
  unfolding moved
  moved_moved s all b k j h =
      let e : m.row * k + m.row * j ≡ m.row * (k + j) = omega arith in
      let w : m.run (m.run s.at s.count all k) (s.count + m.step * k) (drop (m.row * k) all ++ b) j ≡ m.run s.at s.count (all ++ b) (k + j) =
      rw (← run_front s.at s.count all b k h, ← drop-append-le (m.row * k) all b h) (run_more s.at s.count (all ++ b) k j) in
      let t : s.count + m.step * k + m.step * j ≡ s.count + m.step * (k + j) = omega arith in
      let d : drop (m.row * j) (drop (m.row * k) all ++ b) ≡ drop (m.row * (k + j)) (all ++ b) = rw (← drop-append-le (m.row * k) all b h, drop-drop, e) in
      let f = buf_moved (drop (m.row * k) all) b s.buf k j in
      let l : length (drop (m.row * k) all ++ b) - m.row * j ≡ length (all ++ b) - m.row * (k + j) = simp (length-append, length-drop) (omega arith) in
      rw (w, t, l, f, d)

  -- no more rows go than may
  pub gone_spare : (p n : ℕ) → gone m p n ≤ spare m.row m.need n
  unfolding gone
  gone_spare zero n = le_refl (spare m.row m.need n)
  gone_spare (suc p) n = picked (leb n m.room)
    where
      picked : (b : Bool) → cond b 0 (spare m.row m.need n) ≤ spare m.row m.need n
      picked true = omega arith
      picked false = le_refl (spare m.row m.need n)

  -- what came is what has gone and what waits, for any rows that may go
  module _ {D : Type 0} (close : L → ℕ → List ℕ → D) (answers : Late m close) where
    open answers use {late}

    pub close_moved : (s : Held L) (all b : List ℕ) (k : ℕ) → k ≤ spare m.row m.need (length all)
        → close (moved m s all k).at (moved m s all k).count (pending (moved m s all k) ++ b) ≡ close s.at s.count (all ++ b)
    unfolding moved
    close_moved s all b k h =
        let fits : m.row * k ≤ length all = spare_below m.row m.need some (length all) k h in
        let l : length (all ++ b) ≡ length all + length b = length-append all b in
        let more : spare m.row m.need (length all) ≤ spare m.row m.need (length (all ++ b)) = spare_more m.row m.need some (length all) (length (all ++ b)) (omega arith) in
        rw (pending_moved s all k, ← drop-append-le (m.row * k) all b fits, ← run_front s.at s.count all b k fits)
        (late s.at s.count (all ++ b) k (le_trans h more))

    pub close_pushed : (s : Held L) (a b : List ℕ) → close (pushed m s a).at (pushed m s a).count (pending (pushed m s a) ++ b) ≡ close s.at s.count (pending s ++ (a ++ b))
    unfolding pushed
    close_pushed s a b =
        let all = pending s ++ a in
        rw (← append_assoc (pending s) a b) (close_moved s all b (gone m (length (pending s)) (length all)) (gone_spare (length (pending s)) (length all)))

    -- THE theorem: in any cuts, the answer is that of all the bytes at once
    pub closed_after : (s : Held L) (ps : List (List ℕ)) → closed close (after m s ps) ≡ close s.at s.count (pending s ++ joined ps)
    unfolding after joined closed
    closed_after s [] = rw append-nil
    closed_after s (a ∷ ps) = closed_after (pushed m s a) ps ∙ close_pushed s a (joined ps)

  pub pending_fresh : (l : L) → pending (fresh m l) ≡ []
  unfolding pending fresh
  pending_fresh l = refl

  pub length_pending : (s : Held L) → Sound m s → length (pending s) ≡ s.buflen
  unfolding pending
  length_pending s h = length-take-le s.buflen s.buf (omega arith)

  length_over : (r b : List ℕ) → length r ≤ length b → length (over r b) ≡ length b
  unfolding over
  length_over r b h = simp (length-append, length-drop) (omega arith)

  length_behind : (k : ℕ) (b : List ℕ) → length b ≡ m.room → length (behind m.room k b) ≡ m.room
  unfolding behind
  length_behind zero b h = h
  length_behind (suc k) b h = length_zeros m.room

  pub sound_fresh : (l : L) → Sound m (fresh m l)
  unfolding fresh
  sound_fresh l = record { sized = length_zeros m.room; held = omega arith }

  pub sound_moved : (s : Held L) (all : List ℕ) (k : ℕ) → Sound m s → length all - m.row * k ≤ m.room → Sound m (moved m s all k)
  unfolding moved
  sound_moved s all k h fits =
      let b : length (behind m.room k s.buf) ≡ m.room = length_behind k s.buf h.sized in
      record {
        sized = length_over (drop (m.row * k) all) (behind m.room k s.buf) (simp length-drop (omega arith)) ∙ b;
        held = fits;
      }

  -- what stays fits the buffer
  pub gone_left : (p n : ℕ) → n - m.row * gone m p n ≤ m.room
  unfolding gone
  gone_left zero n = omega (arith, spare_left m.row m.need some n, wide)
  gone_left (suc p) n = picked (leb n m.room) refl
    where
      picked : (b : Bool) → leb n m.room ≡ b → n - m.row * cond b 0 (spare m.row m.need n) ≤ m.room
      picked true e = omega (arith, leb-true n m.room e)
      picked false e = omega (arith, spare_left m.row m.need some n, wide)

  pub sound_pushed : (s : Held L) (a : List ℕ) → Sound m s → Sound m (pushed m s a)
  unfolding pushed
  sound_pushed s a h =
      let all = pending s ++ a in
      sound_moved s all (gone m (length (pending s)) (length all)) h (gone_left (length (pending s)) (length all))

  -- the bytes that came are counted
  module _ (u : ℕ) (whole : u * m.step ≡ m.row) where
    pub tally_pushed : (s : Held L) (a : List ℕ) → Sound m s → tally u (pushed m s a) ≡ tally u s + length a
    unfolding pushed moved tally
    tally_pushed s a h =
        let all = pending s ++ a in
        let k = gone m (length (pending s)) (length all) in
        let l : length all ≡ s.buflen + length a = rw (length-append (pending s) a, length_pending s h) in
        let e : u * (m.step * k) ≡ m.row * k = rw (← mul_assoc, whole) in
        let below : m.row * k ≤ length all = spare_below m.row m.need some (length all) k (gone_spare (length (pending s)) (length all)) in
        omega arith

    pub tally_after : (s : Held L) (ps : List (List ℕ)) → Sound m s → tally u (after m s ps) ≡ tally u s + length (joined ps)
    unfolding after joined
    tally_after s [] h = rw add-zero
    tally_after s (a ∷ ps) h =
        let e = tally_after (pushed m s a) ps (sound_pushed s a h) in
        let f = tally_pushed s a h in
        let l : length (a ++ joined ps) ≡ length a + length (joined ps) = length-append a (joined ps) in
        omega arith

  pub pushed_moved : (s : Held L) (all a : List ℕ) (k : ℕ) → m.row * k ≤ length all
      → pushed m (moved m s all k) a ≡ moved m s (all ++ a) (k + gone m (length all - m.row * k) (length all - m.row * k + length a))
  unfolding pushed
  pushed_moved s all a k fits =
      let j = gone m (length (drop (m.row * k) all)) (length (drop (m.row * k) all ++ a)) in
      rw (pending_moved s all k, moved_moved s all a k j fits, length-append, length-drop)

  -- any cuts leave the state of all the bytes with some rows gone
  pub after_moved : (s : Held L) (all : List ℕ) (k : ℕ) (ps : List (List ℕ)) → k ≤ spare m.row m.need (length all)
      → (j : ℕ) × (j ≤ spare m.row m.need (length (all ++ joined ps))) × (after m (moved m s all k) ps ≡ moved m s (all ++ joined ps) j)
  unfolding after joined
  after_moved s all k [] h = (k, rw append-nil h, rw append-nil)
  after_moved s all k (a ∷ ps) h =
      let fits : m.row * k ≤ length all = spare_below m.row m.need some (length all) k h in
      let j = gone m (length all - m.row * k) (length all - m.row * k + length a) in
      let l : length (all ++ a) ≡ length all + length a = length-append all a in
      let n : length all - m.row * k + length a ≡ length (all ++ a) - m.row * k = omega arith in
      let more : k ≤ spare m.row m.need (length (all ++ a)) = le_trans h (spare_more m.row m.need some (length all) (length (all ++ a)) (omega arith)) in
      let i : j ≤ spare m.row m.need (length (all ++ a) - m.row * k) = rw (← n) (gone_spare (length all - m.row * k) (length all - m.row * k + length a)) in
      let g : k + j ≤ spare m.row m.need (length (all ++ a)) = omega (arith, spare_late m.row m.need some (length (all ++ a)) k more) in
      rw (pushed_moved s all a k fits, ← append_assoc all a (joined ps)) (after_moved s (all ++ a) (k + j) ps g)

  -- a buffer that holds no more than must stay, and a row: the state is that of the bytes alone
  module _ (tight : m.room ≤ m.need + m.row) where
    pub gone_tight : (p n : ℕ) → gone m p n ≡ spare m.row m.need n
    unfolding gone
    gone_tight zero n = refl
    gone_tight (suc p) n = picked (leb n m.room) refl
      where
        picked : (b : Bool) → leb n m.room ≡ b → cond b 0 (spare m.row m.need n) ≡ spare m.row m.need n
        picked true e = sym (spare_none m.row m.need some n (omega (arith, leb-true n m.room e)))
        picked false e = refl

    pub pushed_tight : (s : Held L) (a : List ℕ) → pushed m s a ≡ moved m s (pending s ++ a) (spare m.row m.need (length (pending s ++ a)))
    unfolding pushed
    pushed_tight s a = rw gone_tight

    -- a move and then bytes
    pub push_late : (s : Held L) (all b : List ℕ) (k : ℕ) → k ≤ spare m.row m.need (length (all ++ b)) → m.row * k ≤ length all
        → pushed m (moved m s all k) b ≡ moved m s (all ++ b) (spare m.row m.need (length (all ++ b)))
    push_late s all b k h fits =
        let p = drop (m.row * k) all in
        let n : length (p ++ b) ≡ length (all ++ b) - m.row * k = simp (length-append, length-drop) (omega arith) in
        rw (pushed_tight (moved m s all k) b, pending_moved s all k, moved_moved s all b k (spare m.row m.need (length (p ++ b))) fits, n)
        (rw (spare_late m.row m.need some (length (all ++ b)) k h))

    -- THE law: the bytes of two updates are those of one
    pub pushed_pushed : (s : Held L) (a b : List ℕ) → pushed m (pushed m s a) b ≡ pushed m s (a ++ b)
    pushed_pushed s a b =
        let all = pending s ++ a in
        let k = spare m.row m.need (length all) in
        let l : length (all ++ b) ≡ length all + length b = length-append all b in
        let h : k ≤ spare m.row m.need (length (all ++ b)) = spare_more m.row m.need some (length all) (length (all ++ b)) (omega arith) in
        rw (pushed_tight s a, push_late s all b k h (spare_below m.row m.need some (length all) k (le_refl k)), append_assoc (pending s) a b, pushed_tight s (a ++ b))

    pub after_joined : (s : Held L) (a : List ℕ) (ps : List (List ℕ)) → after m (pushed m s a) ps ≡ pushed m s (a ++ joined ps)
    unfolding after joined
    after_joined s a [] = rw append-nil
    after_joined s a (b ∷ ps) = rw (pushed_pushed s a b, after_joined s (a ++ b) ps, append_assoc)
