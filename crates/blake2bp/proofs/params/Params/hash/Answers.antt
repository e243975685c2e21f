-- `blake2bp::params::Params::hash` meets its contract.
-- Assumes nothing.
use mathlib.Core.Path.{◌≡◌, refl, ap, ◌∙◌}
use Prim.Native.Nat.{◌≤◌}
use lib.ListN.{length}
use Rattle.std.proofs.lemmas.Result.{err_from_is_err_and}
use Rattle.refusals.specs.Numbers.{limit}
use Rattle.refusals.proofs.Settled.{never_accepted}
use Rattle.blake2bp.specs.Sizes.{keybytes}
use Rattle.blake2bp.specs.State.{updated}
use Rattle.blake2bp.specs.declared.state.State.{State}
use Rattle.blake2bp.proofs.Cleaned.{Good}
use Rattle.blake2bp.proofs.OneShot.{hashed_past, hashed_through, hashed_straight}
use borrow.Author.Rules.{rules}
use Rattle.blake2bp.proofs.params.Params.hash.Goals as goal
use Rattle.blake2bp.proofs.params.Params.hash.Goals.{Start}

whole : (c : Start) → length c.args.self.key ≡ keybytes
whole c = search rules

few : (c : Start) → length c.args.input.now ≤ limit
unfolding limit
few c = search rules

pub returns-in_err-update : goal.returns-in_err-update
returns-in_err-update c =
    let p = c.args.self in
    let m = c.args.input.now in
    let good : Good p = record { ranged = c.in_ok-check.ensures; whole = whole (goal.at.returns-in_err-update c).Start } in
    let is = err_from_is_err_and c.from_residual-in_err-update.result c.from_residual-in_err-update.ensures.1 in
    rw (is.1, is.2) (hashed_past p good m (c.in_err-update.ensures ∙ ap (λ (s : State). updated s m) c.with_params.ensures) (never_accepted c.in_err-update.field-0.0))

pub returns-then-self-gt0 : goal.returns-then-self-gt0
returns-then-self-gt0 c =
    let p = c.args.self in
    let m = c.args.input.now in
    let good : Good p = record { ranged = c.in_ok-check.ensures; whole = whole (goal.at.returns-then-self-gt0 c).Start } in
    hashed_through p good m (c.in_ok-update.ensures ∙ ap (λ (s : State). updated s m) c.with_params.ensures) refl c.finalize.ensures

pub returns : goal.returns
returns c =
    let start = (goal.at.returns c).Start in
    let p = c.args.self in
    let good : Good p = record { ranged = c.in_ok-check.ensures; whole = whole start } in
    hashed_straight p good c.args.input.now c.if-self-gt0.false (few start) c.leaf_words-leaves.ensures c.root_words-root.ensures c.finish_leaves-ends.ensures
    c.finalize_root_words.ensures
