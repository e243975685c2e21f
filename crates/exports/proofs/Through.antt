-- A fresh state takes any message, and its digest is RFC 7693's: no call of the two is refused.
-- Assumes nothing.
use mathlib.Core.Path.{◌≡◌, sym, ap, ◌∙◌}
use mathlib.Core.List.{List, []}
use Prim.Native.Nat.{ℕ, ◌+◌, ◌≤◌}
use native.Mathlib.Omega.{arith}
use borrow.Author.Tests.{le-leb}
use lib.ListN.{length}
use Rattle.std.specs.Prelude.{Result, Ok}
use Rattle.definitions.specs.Family.{BLAKE2b}
use Rattle.definitions.specs.Hash.{keyed, blake2}
use Rattle.refusals.specs.Numbers.{accepted, limit}
use Rattle.refusals.specs.declared.refusal.Refusal.{Refusal}
use Rattle.hash.specs.Answers.{as_hash_answer}
use Rattle.hash.specs.Hash.{hash_of}
use Rattle.hash.specs.declared.Hash.{Hash}
use Rattle.hash.proofs.Unique.{hash_settled}
use Rattle.refusals.proofs.Settled.{settled}
use Rattle.members.specs.Row.{row}
use Rattle.blake2b_state.specs.Answers.{StateAnswer, as_state_answer}
use Rattle.blake2b_state.specs.Sizes.{outbytes}
use Rattle.blake2b_state.specs.State.{plain, updated, finalized}
use Rattle.blake2b_state.specs.declared.state.State.{State}
use Rattle.blake2b.specs.Params.{defaults}
use Rattle.blake2b.specs.Member.{fresh}
use Rattle.blake2b.proofs.Cleaned.{good_defaults}
use Rattle.blake2b.proofs.OneShot.{hashed_defaults, one_shot_is_incremental}
use Rattle.blake2b.proofs.Plain.{new_is_default, finalized_plain, plain_within}
use Rattle.blake2b.proofs.Rows.{state_of, Reached, opened_reached, opened_state, says_number, says_next}

module _ (m : List ℕ) (few : length m ≤ limit) where
  reached : Reached (row defaults [])
  reached = opened_reached defaults good_defaults.clean good_defaults.ranged

  took : updated (fresh defaults) m ≡ record { number = accepted; state = state_of (row defaults m) }
  unfolding keyed
  took =
      ap (λ (s : State). updated s m) (sym (opened_state defaults good_defaults.clean))
      ∙ (λ i. record { number = says_number (row defaults []) reached m i; state = says_next (row defaults []) reached m i })
      ∙ rw (le-leb (0 + length m) limit (omega arith))

  module _ {s : State} (e : s ≡ plain) where
    pub update_known : {r : Result State Refusal} → as_state_answer s r ≡ updated s m → r ≡ Ok (state_of (row defaults m))
    update_known {r} f =
        let g = f ∙ ap (λ (t : State). updated t m) (e ∙ new_is_default) ∙ took in
        settled s (ap (λ (a : StateAnswer). a.number) g) (ap (λ (a : StateAnswer). a.state) g)

  -- its digest is the one-shot digest's, with the number of an acceptance
  done : finalized (state_of (row defaults m)) ≡ record { number = accepted; hash = hash_of (blake2 BLAKE2b outbytes [] m) }
  done =
      let asked = sym (one_shot_is_incremental defaults good_defaults.clean.whole good_defaults.ranged m (plain_within m few)) ∙ hashed_defaults m few in
      ap (λ (a : StateAnswer). finalized a.state) (sym took) ∙ (λ i. record { number = (asked i).number; hash = finalized_plain m few i })

  pub finalize_known : {r : Result Hash Refusal} → as_hash_answer r ≡ finalized (state_of (row defaults m)) → r ≡ Ok (hash_of (blake2 BLAKE2b outbytes [] m))
  finalize_known {r} f = hash_settled (f ∙ done)
