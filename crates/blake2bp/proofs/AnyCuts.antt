-- In any cuts the digest of a state is the paper's tree digest of the joined bytes, and its count their number. The record itself may differ
-- by the cuts. The members' laws, at this member. Assumes nothing.
use mathlib.Core.Path.{◌≡◌}
use mathlib.Core.Bool.{true}
use mathlib.Core.List.{List, [], foldl}
use Prim.Native.Nat.{ℕ, ◌+◌, ◌≤◌}
use lib.ListN.{length}
use Rattle.definitions.specs.Words.{pad}
use Rattle.laws_states.specs.Buffer.{joined}
use Rattle.laws_states.proofs.Buffers.{Sound}
use Rattle.refusals.specs.Numbers.{accepted, limit}
use Rattle.members.specs.Member.{reached}
use Rattle.members.proofs.Cuts as cuts
use Rattle.members.proofs.Promises as promises
use Rattle.hash.specs.Hash.{hash_of}
use Rattle.blake2bp.specs.Sizes.{roombytes}
use Rattle.blake2bp.specs.State.{core, machine, pending, state_in_range, key_bytes, fresh, reads, updated, finalized, counted, digest, keeper, member}
use Rattle.blake2bp.specs.declared.params.Params.{Params}
use Rattle.blake2bp.specs.declared.state.State.{State}
use Rattle.blake2bp.proofs.Cleaned.{Good}
use Rattle.blake2bp.proofs.Fresh.{begun}
use Rattle.blake2bp.proofs.States.{keeper_laws, laws, faithful}

abbrev pub next : State → List ℕ → State
next s a = (updated s a).state

-- an update of no bytes changes nothing
pub empty_changes_nothing : (s : State) → Sound machine (core s) → state_in_range s ≡ true → updated s [] ≡ record { number = accepted; state = s }
unfolding updated
empty_changes_nothing = promises.empty_changes_nothing keeper reads faithful keeper_laws

module _ (p : Params) (good : Good p) (ps : List (List ℕ)) where
  -- behind the bytes that wait, the buffer is zero
  pub zeros_behind : (reached member p ps).buf ≡ pad roombytes (pending (reached member p ps))
  zeros_behind = cuts.zeros_behind member laws p (begun p good) ps

  module _ (within : key_bytes p + length (joined ps) ≤ limit) where
    -- in any cuts: once every piece came by an update, the digest is the paper's tree digest of the joined bytes
    pub digest_in_any_cuts : finalized (foldl next (fresh p) ps) ≡ record { number = accepted; hash = hash_of (digest p (joined ps)) }
    unfolding updated finalized
    digest_in_any_cuts = promises.digest_in_any_cuts member laws reads faithful p (begun p good) ps within

    -- and the count their number
    pub count_in_any_cuts : counted (foldl next (fresh p) ps) ≡ record { number = accepted; count = record { 0 = length (joined ps) } }
    unfolding updated counted
    count_in_any_cuts = promises.count_in_any_cuts member laws reads faithful p (begun p good) ps within
