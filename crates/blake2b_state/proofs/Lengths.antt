-- A state's digest has the length that was asked for.
-- Assumes nothing.
use mathlib.Core.Path.{◌≡◌, refl, ap, ◌∙◌}
use mathlib.Core.Bool.{Bool, true, false}
use Prim.Native.Nat.{◌≤◌}
use native.Mathlib.Omega.{arith}
use lib.ListN.{length}
use lib.Seq.{length-take-le}
use Rattle.definitions.specs.Family.{BLAKE2b}
use Rattle.definitions.specs.Hash.{state_bytes}
use Rattle.laws_blocks.specs.Blocks.{through_blocks}
use Rattle.laws_blocks.proofs.Sizes.{length_through}
use Rattle.refusals.specs.Numbers.{accepted, bad_record}
use Rattle.hash.specs.Hash.{is_digest_length, digest_of}
use Rattle.blake2b_state.specs.Sizes.{blockbytes, outbytes}
use Rattle.blake2b_state.specs.State.{bounds, pending, state_in_range, closed_digest, finalized}
use Rattle.blake2b_state.specs.declared.state.State.{State}
use Rattle.hash.proofs.Digests.{digest_of_hash, digest_length_is}
use Rattle.members.proofs.Ranges.{in_range_lem}

pub length_closed_digest : (s : State) → s.hash_length ≤ outbytes → length (closed_digest s) ≡ s.hash_length
length_closed_digest s h =
    let l = length_through BLAKE2b blockbytes s.words s.count true s.last_node (pending s) in
    length-take-le s.hash_length (state_bytes BLAKE2b (through_blocks BLAKE2b blockbytes s.words s.count true s.last_node (pending s))) (omega arith)

pub digest_sized : (s : State) → (finalized s).number ≡ accepted → is_digest_length (length (digest_of (finalized s).hash)) ≡ true
unfolding finalized
digest_sized s e = split (state_in_range s) refl
  where
    split : (b : Bool) → state_in_range s ≡ b → is_digest_length (length (digest_of (finalized s).hash)) ≡ true
    split true f =
        let r = in_range_lem bounds s.hash_length s.buflen s.count s.is_keyed f in
        rw f (ap is_digest_length (ap length (digest_of_hash (closed_digest s)) ∙ length_closed_digest s r.most) ∙ digest_length_is s.hash_length r.least r.most)
    split false f = let z : bad_record ≡ accepted = rw f at e in absurd (omega arith)
