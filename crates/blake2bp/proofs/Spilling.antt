-- The buffer is filled by the first of the bytes that come, k of its rows go, and then comes the rest.
-- Assumes nothing.
use mathlib.Core.Path.{◌≡◌, ap, ◌∙◌}
use mathlib.Core.List.{List, ◌++◌}
use Prim.Native.Nat.{ℕ, ◌+◌, ◌-◌, ◌*◌, ◌<◌, ◌≤◌}
use native.Mathlib.Omega.{arith}
use lib.ListN.{length, take, drop}
use lib.Seq.{take_all}
use Rattle.laws_blocks.specs.Chain.{spare}
use Rattle.laws_states.specs.Buffer as buffer
use Rattle.laws_states.proofs.Buffers.{Sound}
use Rattle.laws_states.proofs.Lifts as lifts
use Rattle.blake2bp_leaves.specs.Sizes.{blockbytes, rowbytes}
use Rattle.blake2bp.specs.Sizes.{roombytes, needbytes}
use Rattle.blake2bp.specs.State.{core, machine, pending, moved}
use Rattle.blake2bp.specs.declared.state.State.{State}
use Rattle.blake2bp.proofs.States.{store, lawful}

-- f is the state s with its buffer full, once more than it has room for came
pub record Filled (s : State) (a : List ℕ) (f : State) : Type 0 where
  pub sized : length s.buf ≡ roombytes
  pub held : s.buf_len ≤ roombytes
  pub more : roombytes < s.buf_len + length a
  pub filled : f ≡ moved s (pending s ++ take (roombytes - s.buf_len) a) 0
  pub whole : length f.buf ≡ roombytes

module _ (s : State) (a : List ℕ) (f : State) (h : Filled s a f) where
  sound : Sound machine (core s)
  sound = record { sized = h.sized; held = h.held }

  pub full_held : f.buf_len ≡ roombytes
  full_held = lifts.filled_held store machine lawful s a sound h.more f h.filled

  pub full_count : f.count.0 ≡ s.count.0
  full_count = lifts.filled_count store machine lawful s a sound h.more f h.filled

  -- e is what stays once k rows went
  module _ (e : State) (k : ℕ) (gone : e ≡ moved f f.buf k) where
    -- all of a full buffer waits
    waiting : e ≡ moved f (pending f) k
    unfolding buffer.pending
    waiting = let full = full_held in rw (take_all f.buf_len f.buf (omega (arith, h.whole))) gone

    pub left_held : e.buf_len ≡ roombytes - rowbytes * k
    left_held = lifts.gone_held store machine lawful s a sound h.more f h.filled h.whole e k waiting

    pub left_count : e.count.0 ≡ s.count.0 + blockbytes * k
    left_count = lifts.gone_count store machine lawful s a sound h.more f h.filled h.whole e k waiting

    pub spilled : (rest : List ℕ) → rest ≡ drop (roombytes - s.buf_len) a → (r : State) (q : ℕ) → r ≡ moved e (pending e ++ rest) q → rowbytes * k ≤ roombytes
        → k + q ≡ spare rowbytes needbytes (s.buf_len + length a) → r ≡ moved s (pending s ++ a) (spare rowbytes needbytes (s.buf_len + length a))
    spilled rest is r q last =
        lifts.spill_is store machine lawful s a sound h.more f h.filled h.whole e k waiting r q (last ∙ ap (λ (b : List ℕ). moved e (pending e ++ b) q) is)
