-- Document 01's answers: a number with a digest, a length or a comparison, and zeros or no where the number is a refusal; and Results read as them.
-- Assumes nothing.
use Rattle.std.specs.Prelude.{Bool, false, ℕ, Result}
use Rattle.laws_words.specs.Bytes.{zeros}
use Rattle.refusals.specs.Answers.{number_in, value_in}
use Rattle.refusals.specs.declared.refusal.Refusal.{Refusal}
use Rattle.hash.specs.Sizes.{longest}
use Rattle.hash.specs.declared.Hash.{Hash}

pub record HashAnswer : Type 0 where
  pub number : ℕ
  pub hash : Hash

pub record LengthAnswer : Type 0 where
  pub number : ℕ
  pub length : ℕ

pub record EqualAnswer : Type 0 where
  pub number : ℕ
  pub equal : Bool

-- what a refusal answers in place of a digest
abbrev pub zero_hash : Hash
zero_hash = record { bytes = zeros longest; len = 0 }

abbrev pub as_hash_answer : Result Hash Refusal → HashAnswer
as_hash_answer r = record { number = number_in r; hash = value_in zero_hash r }

abbrev pub as_length_answer : Result ℕ Refusal → LengthAnswer
as_length_answer r = record { number = number_in r; length = value_in 0 r }

abbrev pub as_equal_answer : Result Bool Refusal → EqualAnswer
as_equal_answer r = record { number = number_in r; equal = value_in false r }
