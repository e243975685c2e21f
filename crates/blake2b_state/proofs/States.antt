-- The laws of states: those of the laws' machine of one hash, at this record.
-- Assumes nothing.
use mathlib.Core.Path.{◌≡◌, refl, ap}
use mathlib.Core.Bool.{Bool, true}
use mathlib.Core.List.{List}
use Prim.Native.Nat.{ℕ, ◌+◌, ◌≤◌}
use native.Mathlib.Omega.{arith}
use Rattle.definitions.specs.Family.{BLAKE2b}
use Rattle.laws_blocks.specs.Blocks.{on_bytes}
use Rattle.laws_states.proofs.Buffers.{Lawful}
use Rattle.laws_states.proofs.Lifts.{Store}
use Rattle.laws_states.proofs.Serial.{serial_lawful}
use Rattle.refusals.specs.Numbers.{accepted, limit}
use Rattle.members.specs.Row.{digested}
use Rattle.members.proofs.Laws.{KeeperLaws}
use Rattle.members.proofs.Laws as members
use Rattle.members.proofs.Promises.{Faithful}
use Rattle.members.proofs.Closings.{one_late}
use Rattle.members.proofs.Ranges.{Kept, in_range_lem}
use Rattle.hash.specs.Hash.{is_digest_length}
use Rattle.hash.proofs.Digests.{digest_of_hash}
use Rattle.blake2b_state.specs.Sizes.{blockbytes}
use Rattle.blake2b_state.specs.State.{bounds, machine, begun, beginning, reads, keeper, state_in_range}
use Rattle.blake2b_state.specs.declared.state.State.{State}

abbrev pub lawful : Lawful machine
lawful = serial_lawful blockbytes (on_bytes BLAKE2b) (omega arith)

pub tight : blockbytes ≤ 0 + blockbytes
tight = omega arith

pub laws : KeeperLaws keeper
laws = record {
  lawful = lawful;
  room = refl;
  whole = refl;
  core_holding = λ s h. refl;
  holding_holding = λ s h j. refl;
  holding_core = λ s. refl;
  same_length = λ s h. refl;
  same_key = λ s h. refl;
  same_close = λ s h. refl;
  late = λ s. one_late BLAKE2b (omega arith) s.hash_length s.last_node;
}

pub faithful : Faithful reads
faithful = record {
  number_of_lem = λ n s. refl;
  state_of_lem = λ n s. refl;
  digest_of_lem = λ d. ap (digested accepted) (digest_of_hash d);
  none_of = λ n. refl;
  count_of = λ n c. refl;
}

abbrev pub store : Store State (List ℕ)
store = members.store keeper laws

-- what a state in range keeps
pub kept : (s : State) → state_in_range s ≡ true → Kept keeper s
kept s = in_range_lem bounds s.hash_length s.buflen s.count s.is_keyed

-- a state begins where a digest may have the length
pub begins : (words : List ℕ) (n : ℕ) (up keyed : Bool) (block : List ℕ) → is_digest_length n ≡ true
    → beginning words n up keyed block ≡ record { number = accepted; state = begun words n up keyed block }
unfolding beginning
begins words n up keyed block e = rw e

pub held : (s : State) → state_in_range s ≡ true → s.buflen ≤ blockbytes
held s good = (kept s good).held

pub within : (s : State) → state_in_range s ≡ true → s.count + s.buflen ≤ limit
within s good = let k = kept s good in omega (arith, k.within)
