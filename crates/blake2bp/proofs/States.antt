-- The laws of states: those of the laws' machine of n leaves, at this record.
-- Assumes nothing.
use mathlib.Core.Path.{◌≡◌, refl, ap}
use mathlib.Core.Bool.{true}
use mathlib.Core.List.{List}
use Prim.Native.Nat.{◌+◌, ◌*◌, ◌≤◌}
use native.Mathlib.Omega.{arith}
use Rattle.definitions.specs.Family.{BLAKE2b}
use Rattle.laws_states.proofs.Buffers.{Lawful}
use Rattle.laws_states.proofs.Lifts.{Store}
use Rattle.laws_states.proofs.Deals.{parallel_lawful}
use Rattle.refusals.specs.Numbers.{accepted, limit}
use Rattle.refusals.proofs.Limits.{wide}
use Rattle.members.specs.Row.{digested}
use Rattle.members.proofs.Laws.{KeeperLaws, Laws}
use Rattle.members.proofs.Promises.{Faithful}
use Rattle.members.proofs.Closings.{tree_late}
use Rattle.blake2bp_leaves.specs.Sizes.{blockbytes, degree}
use Rattle.blake2bp_leaves.proofs.Turns.{words_on_leaf}
use Rattle.hash.specs.Hash.{is_digest_length}
use Rattle.hash.proofs.Digests.{digest_length_is, digest_of_hash}
use Rattle.members.proofs.Laws as members
use Rattle.members.proofs.Ranges.{Kept, in_range_lem}
use Rattle.blake2bp_leaves.specs.Leaves.{words_of, on_leaf}
use Rattle.blake2bp.specs.Sizes.{roombytes}
use Rattle.blake2bp.specs.State.{bounds, machine, state_in_range, reads, keeper, member}
use Rattle.blake2bp_leaves.specs.declared.leaves.Leaf.{Leaf}
use Rattle.blake2bp.specs.declared.state.State.{State}

abbrev pub lawful : Lawful machine
lawful = parallel_lawful blockbytes on_leaf (omega arith) degree (omega arith)

pub keeper_laws : KeeperLaws keeper
keeper_laws = record {
  lawful = lawful;
  room = refl;
  whole = refl;
  core_holding = λ s h. refl;
  holding_holding = λ s h j. refl;
  holding_core = λ s. refl;
  same_length = λ s h. refl;
  same_key = λ s h. refl;
  same_close = λ s h. refl;
  late = λ s. tree_late BLAKE2b (omega arith) degree (omega arith) words_of on_leaf words_on_leaf s.hash_length s.root_words;
}

pub laws : Laws member
laws = record { keeper = keeper_laws; key_fits = omega (arith, wide); key_held = omega arith; starts = λ p. refl }

pub faithful : Faithful reads
faithful = record {
  number_of_lem = λ n s. refl;
  state_of_lem = λ n s. refl;
  digest_of_lem = λ d. ap (digested accepted) (digest_of_hash d);
  none_of = λ n. refl;
  count_of = λ n c. refl;
}

abbrev pub store : Store State (List Leaf)
store = members.store keeper keeper_laws

-- what a state in range keeps
module _ (s : State) (good : state_in_range s ≡ true) where
  abbrev kept : Kept keeper s
  kept = in_range_lem bounds s.hash_length s.buf_len s.count.0 s.is_keyed good

  pub asked : is_digest_length s.hash_length ≡ true
  asked = let k = kept in digest_length_is s.hash_length k.least k.most

  pub held : s.buf_len ≤ roombytes
  held = kept.held

  pub within : degree * s.count.0 + s.buf_len ≤ limit
  within = kept.within
