-- `many::batch::check_jobs` meets its contract.
-- Assumes nothing.
use mathlib.Core.Path.{◌≡◌, sym, ap, ◌∙◌}
use Prim.Native.Nat.{ℕ}
use Rattle.std.proofs.Common.{rules}
use Rattle.std.specs.Prelude.{Ok}
use Rattle.std.specs.Result.{IsErrAnd}
use Rattle.std.proofs.lemmas.Result.{err_from_is_err_and, MatchResult-weaker}
use Rattle.refusals.specs.Answers.{number_of}
use Rattle.many.proofs.Batches.{Told, told_good, told_bad, turn_bad, turn_good, none_left}
use Rattle.many.proofs.batch.check_jobs.Goals as goal
use Rattle.many.proofs.batch.check_jobs.Goals.{After-map_err}

told : (c : After-map_err) → Told c.check.result c.map_err.result c.loop-index.index-counter
told c =
    MatchResult-weaker c.check.result {P' = λ x. c.map_err.result ≡ Ok x} {Q' = λ e. IsErrAnd c.map_err.result (λ q. q ≡ record { refusal = e; index = c.loop-index.index-counter })}
    c.map_err.ensures.cases (λ x p. p) (λ e p. search rules)

pub returns-in_err-map_err : goal.returns-in_err-map_err
returns-in_err-map_err c =
    let p = err_from_is_err_and c.from_residual.result c.from_residual.ensures.1 in
    let t = told_bad c.check.result c.map_err.result _ (told (goal.at.returns-in_err-map_err c).After-map_err) c.in_err-map_err.was in
    rw (p.1, p.2)
    (ap (λ (i : ℕ). record { number = number_of c.in_err-map_err.field-0.0.refusal; index = i }) t.1
    ∙ sym (turn_bad _ c.args.jobs.now c.loop-index.index-counter _ c.loop-index-test.true _ (t.0 ∙ c.check.ensures))
    ∙ c.loop-index.invariant)

pub loop-index-preserved : goal.loop-index-preserved
loop-index-preserved c =
    let t = told_good c.check.result c.map_err.result _ (told (goal.at.loop-index-preserved c).After-map_err) c.in_ok-map_err.was in
    sym (turn_good _ c.args.jobs.now c.loop-index.index-counter _ c.loop-index-test.true (t ∙ c.check.ensures)) ∙ c.loop-index.invariant

pub returns : goal.returns
returns c = sym (none_left _ c.args.jobs.now c.loop-index.index-counter c.loop-index-test.false) ∙ c.loop-index.invariant
