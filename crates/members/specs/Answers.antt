-- How a Result is read as what a call tells: a number, and the value or what stands in its place.
-- Assumes nothing.
use Rattle.std.specs.Prelude.{ℕ, Result}
use Rattle.refusals.specs.Answers.{number_in, value_in}
use Rattle.refusals.specs.declared.refusal.Refusal.{Refusal}

abbrev pub told : {A : Type 0} → A → Result A Refusal → ℕ × A
told z r = (number_in r, value_in z r)
