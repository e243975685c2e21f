-- What a slot's functions make of their answers is the rules' reply.
-- Assumes nothing.
use mathlib.Core.Path.{◌≡◌, refl, sym, ap}
use mathlib.Core.Bool.{Bool, true, false}
use mathlib.Core.List.{List, []}
use Prim.Native.Nat.{ℕ, ◌+◌, ◌-◌}
use native.Mathlib.Omega.{arith}
use lib.ListN.{take, drop}
use Rattle.definitions.specs.Words.{pad}
use Rattle.laws_words.specs.Bytes.{zeros}
use Rattle.refusals.specs.Numbers.{accepted, slot_closed}
use Rattle.hash.specs.Hash.{hash_of, digest_of, zero_hash}
use Rattle.hash.specs.declared.Hash.{Hash}
use Rattle.blake2b_state.specs.State.{state_in_range, closed_digest}
use Rattle.blake2b_state.specs.State as state
use Rattle.blake2b_state.specs.declared.state.State.{State}
use Rattle.hash.proofs.Digests.{digest_of_hash}
use Rattle.bank.specs.Rules.{place_fault, piece, reply, digest}
use Rattle.bank.specs.Slots.{slots, hash_answer}
use Rattle.bank.specs.declared.slot.Slot.{Slot}
use Rattle.bank.specs.declared.piece.Piece.{Piece}

-- the digest of a state, as a record
pub record_of_digest : (s : State) → (state.finalized s).hash ≡ hash_of (digest_of (state.finalized s).hash)
unfolding state.finalized pad zeros
record_of_digest s = split (state_in_range s) refl
  where
    whole : (d : List ℕ) → hash_of d ≡ hash_of (digest_of (hash_of d))
    whole d = sym (ap hash_of (digest_of_hash d))

    split : (b : Bool) → state_in_range s ≡ b → (state.finalized s).hash ≡ hash_of (digest_of (state.finalized s).hash)
    split true e = rw e (whole (closed_digest s))
    split false e = rw e (whole [])

-- a record of a batch: no fault means an open slot, and a piece inside the data
pub placed : (is-open inside : Bool) → place_fault is-open inside ≡ accepted → (is-open ≡ true) × (inside ≡ true)
unfolding place_fault
placed true true e = (refl, refl)
placed true false e = absurd (omega (arith, e))
placed false inside e = absurd (omega (arith, e))

rest : (a b : ℕ) → a + b - a ≡ b
rest a b = omega arith

-- its bytes, as a part of the data
pub piece_is : (p : Piece) (d : List ℕ) → take (p.start + p.length - p.start) (drop p.start d) ≡ piece p d
unfolding piece
piece_is p d = ap (λ (n : ℕ). take n (drop p.start d)) (rest p.start p.length)

-- what a closed slot answers to a digest
pub closed_digest_lem : (s : Slot) → s.is_open ≡ false → {h : Hash} → h ≡ zero_hash → record { number = slot_closed; hash = h } ≡ hash_answer (reply slots s digest).answer
unfolding reply pad zeros
closed_digest_lem s e f = rw (e, f)
