-- What the exit of a `?` hands on: the refusal that was met.
-- Assumes nothing.
use mathlib.Core.Path.{◌≡◌, ap, ◌∙◌}
use Rattle.std.specs.Prelude.{Result, Err, IsErrAnd}
use Rattle.std.proofs.lemmas.Result.{err_from_is_err_and}
use Rattle.refusals.specs.declared.refusal.Refusal.{Refusal}

pub handed_on : {A : Type 0} {r : Result A Refusal} {met refusal : Refusal} → IsErrAnd r (λ e. e ≡ met) → met ≡ refusal → r ≡ Err refusal
handed_on {r} h is = let p = err_from_is_err_and r h in p.1 ∙ ap Err (p.2 ∙ is)
