-- What a state holds after bytes: all blocks but the last have gone, the last one waits, be it full or not, and zeros lie behind it.
-- Assumes nothing.
use mathlib.Core.Path.{◌≡◌, sym, ap, ◌∙◌}
use mathlib.Core.List.{List, ◌++◌}
use Prim.Native.Nat.{ℕ, suc, ◌-◌, ◌*◌}
use native.Mathlib.Nat.{zero-add}
use lib.ListN.{length, drop}
use Rattle.definitions.specs.Words.{pad}
use Rattle.laws_blocks.specs.Chain.{spare}
use Rattle.laws_states.specs.Buffer as buffer
use Rattle.laws_states.proofs.Tails.{rows_gone, bytes_held, tail_zero, exact_row_held}
use Rattle.blake2b.specs.Params.{front}
use Rattle.blake2b_state.specs.Sizes.{blockbytes}
use Rattle.blake2b_state.specs.State.{core, machine, pending, pushed}
use Rattle.blake2b.specs.Member.{fresh}
use Rattle.blake2b.specs.declared.params.Params.{Params}
use lib.ListN.{replicate}
use lib.Seq.{take-append_seam}
use Rattle.blake2b_state.proofs.States.{lawful, tight}
use mathlib.Core.Path.{refl}

pending_fresh : (p : Params) → pending (fresh p) ≡ front p
unfolding buffer.pending pad
pending_fresh p = take-append_seam (front p) (replicate (blockbytes - length (front p)) 0)

module _ (p : Params) (bytes : List ℕ) where
  -- an exact last block waits too: of T bytes, (T - 1) / 128 blocks have gone
  pub blocks_gone : (pushed (fresh p) bytes).count ≡ blockbytes * spare blockbytes 0 (length (front p ++ bytes))
  blocks_gone =
      rows_gone machine lawful tight (core (fresh p)) bytes ∙ zero-add (blockbytes * spare blockbytes 0 _)
      ∙ ap (λ (d : List ℕ). blockbytes * spare blockbytes 0 (length (d ++ bytes))) (pending_fresh p)

  pub bytes_wait : (pushed (fresh p) bytes).buflen ≡ length (front p ++ bytes) - blockbytes * spare blockbytes 0 (length (front p ++ bytes))
  bytes_wait =
      bytes_held machine lawful tight (core (fresh p)) bytes
      ∙ ap (λ (d : List ℕ). length (d ++ bytes) - blockbytes * spare blockbytes 0 (length (d ++ bytes))) (pending_fresh p)

  -- and behind them the buffer is zero
  pub zeros_behind : (pushed (fresh p) bytes).buf ≡ pad blockbytes (drop (blockbytes * spare blockbytes 0 (length (front p ++ bytes))) (front p ++ bytes))
  zeros_behind =
      tail_zero machine lawful tight (core (fresh p)) bytes (ap (pad blockbytes) (sym (pending_fresh p)))
      ∙ ap (λ (d : List ℕ). pad blockbytes (drop (blockbytes * spare blockbytes 0 (length (d ++ bytes))) (d ++ bytes))) (pending_fresh p)

  -- a message of whole blocks: the last of them is in the buffer, all of it
  pub exact_block_waits : (k : ℕ) → length (front p ++ bytes) ≡ blockbytes * suc k → ((pushed (fresh p) bytes).buflen ≡ blockbytes) × ((pushed (fresh p) bytes).count ≡ blockbytes * k)
  exact_block_waits k e =
      let h = exact_row_held machine lawful tight (core (fresh p)) bytes refl k (ap (λ (d : List ℕ). length (d ++ bytes)) (pending_fresh p) ∙ e) in
      (h.0, h.1 ∙ zero-add (blockbytes * k))
