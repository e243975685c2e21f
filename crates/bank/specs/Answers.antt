-- Answers of the bank's functions as the paper's records: a refusal's number, and what was there before the call.
-- Assumes nothing.
use Rattle.std.specs.Prelude.{ℕ, Result}
use Rattle.refusals.specs.Answers.{number_in, value_in, batch_number_in, index_in}
use Rattle.refusals.specs.declared.refusal.Refusal.{Refusal}
use Rattle.refusals.specs.declared.refusal.BatchRefusal.{BatchRefusal}
use Rattle.bank.specs.declared.slot.Slot.{Slot}
use Rattle.bank.specs.declared.bank.Bank.{Bank}

pub record SlotAnswer : Type 0 where
  pub number : ℕ
  pub slot : Slot

pub record BankAnswer : Type 0 where
  pub number : ℕ
  pub bank : Bank

pub record BatchAnswer : Type 0 where
  pub number : ℕ
  -- of the first bad record
  pub index : ℕ
  pub bank : Bank

-- of a call on the slot s, on the bank b
abbrev pub as_slot_answer : Slot → Result Slot Refusal → SlotAnswer
as_slot_answer s r = record { number = number_in r; slot = value_in s r }

abbrev pub as_bank_answer : Bank → Result Bank Refusal → BankAnswer
as_bank_answer b r = record { number = number_in r; bank = value_in b r }

abbrev pub as_batch_answer : Bank → Result Bank BatchRefusal → BatchAnswer
as_batch_answer b r = record { number = batch_number_in r; index = index_in r; bank = value_in b r }
