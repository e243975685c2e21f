-- What the calls answer, as document 01's records: a number, and the value or what stands in its place. A Result is read as one.
-- Assumes nothing.
use Rattle.std.specs.Prelude.{ℕ, Result}
use Rattle.refusals.specs.Answers.{number_in, value_in}
use Rattle.refusals.specs.declared.refusal.Refusal.{Refusal}
use Rattle.blake2bp_leaves.specs.declared.counts.LeafCount.{LeafCount}
use Rattle.blake2bp.specs.declared.counts.MessageCount.{MessageCount}
use Rattle.blake2bp.specs.declared.params.Params.{Params}
use Rattle.blake2bp.specs.declared.state.State.{State}

-- of a setter: the changed parameters, or the old ones
pub record ParamsAnswer : Type 0 where
  pub number : ℕ
  pub params : Params

abbrev pub as_params_answer : Params → Result Params Refusal → ParamsAnswer
as_params_answer old r = record { number = number_in r; params = value_in old r }

-- of what makes a state, or changes it
pub record StateAnswer : Type 0 where
  pub number : ℕ
  pub state : State

-- the first is what a refusal leaves
abbrev pub as_state_answer : State → Result State Refusal → StateAnswer
as_state_answer old r = record { number = number_in r; state = value_in old r }

pub record CountAnswer : Type 0 where
  pub number : ℕ
  pub count : MessageCount

abbrev pub as_count_answer : Result MessageCount Refusal → CountAnswer
as_count_answer r = record { number = number_in r; count = value_in (record { 0 = 0 }) r }

pub record LeafCountAnswer : Type 0 where
  pub number : ℕ
  pub count : LeafCount

abbrev pub as_leaf_count_answer : Result LeafCount Refusal → LeafCountAnswer
as_leaf_count_answer r = record { number = number_in r; count = value_in (record { 0 = 0 }) r }

pub record BufferedAnswer : Type 0 where
  pub number : ℕ
  pub buffered : ℕ

abbrev pub as_buffered_answer : Result ℕ Refusal → BufferedAnswer
as_buffered_answer r = record { number = number_in r; buffered = value_in 0 r }
