-- BLAKE2b is a member: the laws of one, and what parameters owe a state, the key block in front of the message and RFC 7693's digest.
-- Assumes nothing.
use mathlib.Core.Path.{◌≡◌, refl}
use mathlib.Core.Bool.{Bool, true, false, cond}
use mathlib.Core.List.{[], ◌++◌}
use Prim.Native.Nat.{◌≤◌}
use native.Mathlib.Omega.{arith}
use lib.Dec.{leb}
use lib.ListN.{length}
use Rattle.definitions.specs.Family.{BLAKE2b}
use Rattle.definitions.proofs.Lengths.{length_pad}
use Rattle.laws_states.proofs.Buffers.{Sound}
use Rattle.refusals.proofs.Limits.{wide}
use Rattle.members.proofs.Closings.{one_digest}
use Rattle.members.proofs.Laws.{Laws, Begun}
use Rattle.hash.specs.Hash.{is_digest_length}
use Rattle.blake2b_state.specs.Sizes.{blockbytes}
use Rattle.blake2b_state.specs.State.{key_front, core, machine}
use Rattle.blake2b_state.proofs.States as states
use Rattle.blake2b.specs.Params.{in_range, asked, front}
use Rattle.blake2b.specs.Member.{fresh, member}
use Rattle.blake2b.specs.declared.params.Params.{Params}
use Rattle.blake2b.proofs.Cleaned.{tests}

pub laws : Laws member
laws = record { keeper = states.laws; key_fits = omega (arith, wide); key_held = omega arith; starts = λ p. refl }

-- parameters in range ask for a digest length
pub digest_asked : (p : Params) → in_range p ≡ true → is_digest_length p.hash_length ≡ true
digest_asked p e = (tests p e).digest

module _ (p : Params) (whole : length p.key_block ≡ blockbytes) where
  pub length_front : length (front p) ≡ cond (leb 1 p.key_length) blockbytes 0
  unfolding key_front
  length_front = split (leb 1 p.key_length)
    where
      split : (b : Bool) → length (cond b p.key_block []) ≡ cond b blockbytes 0
      split true = whole
      split false = refl

  pub front_short : length (front p) ≤ blockbytes
  front_short = split (leb 1 p.key_length) length_front
    where
      split : (b : Bool) → length (front p) ≡ cond b blockbytes 0 → length (front p) ≤ blockbytes
      split true e = omega arith
      split false e = omega arith

  pub sound_fresh : Sound machine (core (fresh p))
  sound_fresh = record { sized = length_pad blockbytes (front p) front_short; held = front_short }

  pub begun : in_range p ≡ true → Begun member p
  begun good = record {
    good = good;
    asked = digest_asked p good;
    front_is = refl;
    ahead_is = length_front;
    digest_is = λ m. one_digest BLAKE2b (omega arith) (asked p) p.hash_length p.last_node (front p ++ m);
  }
