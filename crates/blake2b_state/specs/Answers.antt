-- The paper's answers of a state's calls, a number with what stands beside it, and how the code's answers are read as these.
-- Assumes nothing.
use Rattle.std.specs.Prelude.{ℕ, Result}
use Rattle.refusals.specs.declared.refusal.Refusal.{Refusal}
use Rattle.refusals.specs.Answers.{number_in, value_in}
use Rattle.blake2b_state.specs.declared.state.State.{State}

pub record StateAnswer : Type 0 where
  pub number : ℕ
  pub state : State

pub record CountAnswer : Type 0 where
  pub number : ℕ
  pub count : ℕ

-- a refusal leaves the old state
abbrev pub as_state_answer : State → Result State Refusal → StateAnswer
as_state_answer old r = record { number = number_in r; state = value_in old r }

abbrev pub as_count_answer : Result ℕ Refusal → CountAnswer
as_count_answer r = record { number = number_in r; count = value_in 0 r }
