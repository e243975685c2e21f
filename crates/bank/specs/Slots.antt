-- The bank's slots: a record of a state, and what the state's own calls make of it; and the answers of the bank's functions, read off a result.
-- Assumes nothing.
use Rattle.std.specs.Prelude.{Bool, true, false, cond, ℕ, replicate}
use Rattle.members.specs.Row.{Answer}
use Rattle.hash.specs.Hash.{hash_of}
use Rattle.blake2b_state.specs.State.{state_in_range, zero_state}
use Rattle.blake2b.specs.Member.{fresh}
use Rattle.blake2b.specs.Row.{state_taker}
use Rattle.hash.specs.Answers.{HashAnswer, LengthAnswer}
use Rattle.blake2b_state.specs.declared.state.State.{State}
use Rattle.blake2b_state.specs.Answers.{CountAnswer}
use Rattle.bank.specs.Rules.{Reply, Result, Kind, slot_taker, Call, step}
use Rattle.bank.specs.declared.slot.Slot.{Slot}
use Rattle.bank.specs.Answers.{SlotAnswer, BankAnswer, BatchAnswer}
use Rattle.bank.specs.declared.bank.Bank.{Bank}

abbrev pub closed_slot : Slot
closed_slot = record { is_open = false; state = zero_state }

unfoldable pub slot_good : Slot → Bool
slot_good s = cond s.is_open (state_in_range s.state) true

abbrev pub open_slot : State → Slot
open_slot s = record { is_open = true; state = s }

abbrev pub slots : Kind Slot
slots = record {
  closed = closed_slot;
  opened = λ p. open_slot (fresh p);
  is_open = λ s. s.is_open;
  good = slot_good;
  taker = slot_taker state_taker (λ s. s.state) open_slot;
}

-- document 01's numbers of slots and of records
abbrev pub slot_limit : ℕ
slot_limit = 16

abbrev pub batch_limit : ℕ
batch_limit = 16

abbrev pub empty_bank : Bank
empty_bank = record { slots = replicate slot_limit closed_slot }

-- a call on the bank
abbrev pub told : Bank → Call → Result Slot
told b c = step slots slot_limit batch_limit b.slots c

abbrev pub bank_answer : Result Slot → BankAnswer
bank_answer r = record { number = r.answer.number; bank = record { slots = r.slots } }

abbrev pub batch_answer : Result Slot → BatchAnswer
batch_answer r = record { number = r.answer.number; index = r.answer.index; bank = record { slots = r.slots } }

abbrev pub slot_answer : Reply Slot → SlotAnswer
slot_answer r = record { number = r.answer.number; slot = r.slot }

abbrev pub hash_answer : Answer → HashAnswer
hash_answer a = record { number = a.number; hash = hash_of a.bytes }

abbrev pub count_answer : Answer → CountAnswer
count_answer a = record { number = a.number; count = a.value }

abbrev pub length_answer : Answer → LengthAnswer
length_answer a = record { number = a.number; length = a.value }
