-- What a buffered state holds after bytes came, where its buffer is no wider than it must be: rows gone, bytes held, zeros behind them.
-- Assumes nothing.
use mathlib.Core.Path.{◌≡◌, sym, ap, ◌∙◌}
use mathlib.Core.List.{List, ◌++◌}
use Prim.Native.Nat.{ℕ, zero, suc, ◌+◌, ◌-◌, ◌*◌, ◌≤◌}
use native.Mathlib.Omega.{arith}
use lib.ListN.{length, drop, replicate, length-append}
use lib.Seq.{drop-append-add}
use Rattle.definitions.specs.Words.{pad}
use Rattle.laws_words.specs.Bytes.{zeros, over}
use Rattle.laws_blocks.specs.Chain.{spare}
use Rattle.laws_states.specs.Buffer.{Machine, Held, behind, pending, moved, pushed}
use Rattle.laws_states.proofs.Buffers.{Lawful, pushed_tight}
use Rattle.laws_blocks.proofs.Rows.{spare_is}
use Rattle.laws_words.proofs.Stores.{drop_zeros}

-- over what was padded, more bytes are padded again
over_padded : (n : ℕ) (f a : List ℕ) → over (f ++ a) (pad n f) ≡ pad n (f ++ a)
unfolding over pad
over_padded n f a =
    let l = length-append f a in
    let e : n - length f - length a ≡ n - (length f + length a) = omega arith in
    ap (λ (z : List ℕ). (f ++ a) ++ z)
    (ap (λ (k : ℕ). drop k (f ++ replicate (n - length f) 0)) l ∙ drop-append-add f (replicate (n - length f) 0) (length a) ∙ drop_zeros (n - length f) (length a)
    ∙ ap (λ (k : ℕ). replicate k 0) (e ∙ ap (λ (k : ℕ). n - k) (sym l)))

over_zeros : (n : ℕ) (r : List ℕ) → over r (zeros n) ≡ pad n r
unfolding over pad zeros
over_zeros n r = ap (λ (z : List ℕ). r ++ z) (drop_zeros n (length r))

-- the buffer of rows that may have gone
pub buffer_padded : (n k m : ℕ) (f a : List ℕ) → over (drop (m * k) (f ++ a)) (behind n k (pad n f)) ≡ pad n (drop (m * k) (f ++ a))
unfolding behind
buffer_padded n zero m f a = let z : m * 0 ≡ 0 = omega arith in rw z (over_padded n f a)
buffer_padded n (suc k) m f a = over_zeros n (drop (m * suc k) (f ++ a))

module _ {L : Type 0} (m : Machine L) (lawful : Lawful m) (tight : m.room ≤ m.need + m.row) (s : Held L) (a : List ℕ) where
  -- the rows that go are those that may
  pub rows_gone : (pushed m s a).count ≡ s.count + m.step * spare m.row m.need (length (pending s ++ a))
  unfolding moved
  rows_gone = ap (λ (h : Held L). h.count) (pushed_tight m lawful tight s a)

  pub bytes_held : (pushed m s a).buflen ≡ length (pending s ++ a) - m.row * spare m.row m.need (length (pending s ++ a))
  unfolding moved
  bytes_held = ap (λ (h : Held L). h.buflen) (pushed_tight m lawful tight s a)

  -- a buffer that is zero behind its bytes stays so
  pub tail_zero : s.buf ≡ pad m.room (pending s)
      → (pushed m s a).buf ≡ pad m.room (drop (m.row * spare m.row m.need (length (pending s ++ a))) (pending s ++ a))
  unfolding moved
  tail_zero e =
      let k = spare m.row m.need (length (pending s ++ a)) in
      ap (λ (h : Held L). h.buf) (pushed_tight m lawful tight s a)
      ∙ ap (λ (b : List ℕ). over (drop (m.row * k) (pending s ++ a)) (behind m.room k b)) e
      ∙ buffer_padded m.room k m.row (pending s) a

  -- whole rows, of which none must stay but a byte: the last of them is held, all of it
  pub exact_row_held : m.need ≡ 0 → (k : ℕ) → length (pending s ++ a) ≡ m.row * suc k
      → ((pushed m s a).buflen ≡ m.row) × ((pushed m s a).count ≡ s.count + m.step * k)
  exact_row_held none k e =
      let some = lawful.some in
      let r : spare m.row m.need (length (pending s ++ a)) ≡ k = rw (none, e) (spare_is m.row 0 some (m.row * suc k) k (omega arith) (omega arith)) in
      (bytes_held ∙ rw (r, e) (omega arith), rows_gone ∙ ap (λ (n : ℕ). s.count + m.step * n) r)
