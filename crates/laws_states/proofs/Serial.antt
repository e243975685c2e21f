-- The machine of one hash is lawful, and its answer, the chain through all the bytes, may be asked for after any rows that may go.
-- Assumes nothing.
use mathlib.Core.Path.{refl}
use mathlib.Core.Bool.{Bool}
use mathlib.Core.List.{List}
use Prim.Native.Nat.{ℕ, ◌<◌}
use native.Mathlib.Omega.{arith}
use Rattle.laws_blocks.specs.Chain.{absorb, through}
use Rattle.laws_states.specs.Buffer.{serial}
use Rattle.laws_blocks.proofs.Chains.{absorb_more, absorb_front, through_late}
use Rattle.laws_states.proofs.Buffers.{Lawful, Late}

module _ {W : Type 0} (bb : ℕ) (F : W → List ℕ → ℕ → Bool → Bool → W) (block : 0 < bb) where
  pub serial_lawful : Lawful (serial bb F)
  serial_lawful = record {
    some = block;
    wide = omega arith;
    run_none = λ l t d. unfold absorb in refl;
    run_more = absorb_more bb F bb;
    run_front = λ l t a b k h. absorb_front bb F bb l t a b k (omega arith);
  }

  pub serial_late : (last node : Bool) → Late (serial bb F) (λ w t d. through bb F bb w t last node d)
  serial_late last node = record { late = λ l t d k h. through_late bb F bb block l t last node d k h }
