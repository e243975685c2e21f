-- `blake2b::params::Params::hash` meets its contract.
-- Assumes nothing.
use mathlib.Core.Path.{◌≡◌, refl, sym, ap, ◌∙◌}
use mathlib.Core.List.{List}
use lib.ListN.{length}
use Prim.Native.Nat.{ℕ, ◌≤◌}
use native.Mathlib.Omega.{arith}
use borrow.Author.Tests.{leb-false}
use borrow.Author.Rules.{rules}
use Rattle.refusals.specs.Numbers.{limit}
use Rattle.refusals.proofs.Settled.{never_accepted}
use Rattle.hash.specs.Answers.{as_hash_answer}
use Rattle.hash.specs.Hash.{made_from}
use Rattle.blake2b_state.specs.Sizes.{blockbytes}
use Rattle.blake2b_state.specs.State.{updated}
use Rattle.blake2b_state.specs.declared.state.State.{State}
use Rattle.blake2b_state.proofs.Exits.{handed_on}
use Rattle.blake2b.proofs.OneShot.{opened_fresh, hashed_unopened, hashed_past, hashed_through, hashed_straight}
use Rattle.blake2b.proofs.params.Params.hash.Goals as goal
use Rattle.blake2b.proofs.params.Params.hash.Goals.{Start}

whole : (c : Start) → length c.args.self.key_block ≡ blockbytes
whole c = search rules

few : (c : Start) → length c.args.input.now ≤ limit
unfolding limit
few c = search rules

pub returns-in_err-to_state : goal.returns-in_err-to_state
returns-in_err-to_state c =
    ap as_hash_answer (handed_on c.from_residual.ensures.1 refl) ∙ hashed_unopened c.args.self _ c.in_err-to_state.ensures c.args.input.now

pub returns-in_err-update : goal.returns-in_err-update
returns-in_err-update c =
    let a = c.args in
    let o = opened_fresh a.self c.in_ok-to_state.ensures in
    let refusal = c.in_err-update.field-0.0 in
    hashed_past a.self (whole (goal.at.returns-in_err-update c).Start) o.0 a.input.now (c.in_err-update.ensures ∙ ap (λ (s : State). updated s a.input.now) o.1)
    (never_accepted refusal) (ap as_hash_answer (handed_on c.from_residual-in_err-update.ensures.1 refl))

pub returns-then-is_keyed : goal.returns-then-is_keyed
returns-then-is_keyed c =
    let a = c.args in
    let o = opened_fresh a.self c.in_ok-to_state.ensures in
    hashed_through a.self (whole (goal.at.returns-then-is_keyed c).Start) o.0 a.input.now (c.in_ok-update.ensures ∙ ap (λ (s : State). updated s a.input.now) o.1)
    refl c.finalize.ensures

pub returns : goal.returns
returns c =
    let here = goal.at.returns c in
    let a = c.args in
    let none = leb-false 1 a.self.key_length (sym c.is_keyed.ensures ∙ c.if-is_keyed.false) in
    hashed_straight a.self (whole here.Start) c.in_ok-check.ensures a.input.now (omega arith) (few here.Start) _ c.to_words.ensures c.from.ensures
    c.compress1_loop-run.ensures (c.from_state.ensures ∙ ap (λ (b : List ℕ). made_from b a.self.hash_length) c.write_words.ensures)
