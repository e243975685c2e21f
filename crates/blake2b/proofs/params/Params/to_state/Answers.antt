-- `blake2b::params::Params::to_state` meets its contract.
-- Assumes nothing.
use mathlib.Core.Path.{◌≡◌, ◌∙◌}
use mathlib.Core.Bool.{Bool, true, false}
use mathlib.Core.List.{List, []}
use Prim.Native.Nat.{ℕ}
use Rattle.std.specs.Prelude.{Option, is_some, unwrap_or}
use Rattle.std.specs.Bool.{then_some}
use Rattle.refusals.specs.Numbers.{accepted}
use Rattle.refusals.proofs.Picks.{holds}
use Rattle.blake2b_state.specs.State.{begun, beginning, key_front}
use Rattle.blake2b_state.proofs.States.{begins}
use Rattle.blake2b.specs.Member.{opened}
use Rattle.blake2b.proofs.Members.{digest_asked}
use Rattle.blake2b.proofs.params.Params.to_state.Goals as goal

-- a key block where there is a key
keyed_by : (words : List ℕ) (n : ℕ) (up keyed : Bool) (block : List ℕ) {given : Option (List ℕ)} → given ≡ then_some keyed block
    → beginning words n up (is_some given) (unwrap_or given []) ≡ beginning words n up keyed block
unfolding beginning key_front
keyed_by words n up true block e = rw e
keyed_by words n up false block e = rw e

pub returns : goal.returns
unfolding opened
returns c =
    let p = c.args.self in
    let good = c.in_ok-check.ensures in
    holds _ _ _ good (c.begin.ensures ∙ keyed_by _ _ _ _ _ c.then_some.ensures ∙ begins _ _ _ _ _ (digest_asked p good)
    ∙ (λ j. record { number = accepted; state = begun (c.to_words.ensures j) p.hash_length p.last_node (c.is_keyed.ensures j) p.key_block }))
