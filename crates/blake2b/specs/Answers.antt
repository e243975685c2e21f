-- The paper's answer of a setter, a number with parameters, and how the code's answer is read as it.
-- Assumes nothing.
use Rattle.std.specs.Prelude.{ℕ, Result}
use Rattle.refusals.specs.declared.refusal.Refusal.{Refusal}
use Rattle.refusals.specs.Answers.{number_in, value_in}
use Rattle.blake2b.specs.declared.params.Params.{Params}

pub record ParamsAnswer : Type 0 where
  pub number : ℕ
  pub params : Params

-- a refusal leaves the old parameters
abbrev pub as_params_answer : Params → Result Params Refusal → ParamsAnswer
as_params_answer old r = record { number = number_in r; params = value_in old r }
