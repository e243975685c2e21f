-- `bank::bank::Bank::update_many` meets its contract.
-- Assumes nothing.
use mathlib.Core.Path.{◌≡◌}
use lib.ListN.{length, drop}
use Rattle.bank.specs.Rules.{update_many, batch}
use Rattle.bank.specs.Slots.{slots, slot_limit, told, batch_answer}
use Rattle.bank.proofs.bank.Bank.update_many.Given as goal

-- the records that are left, over the slots that those in front of them left
abbrev pub invariant-loop-index : goal.invariant-loop-index
invariant-loop-index l =
    let left_records = drop l.index-counter l.piece-items in
    record {
      sized : length l.slots ≡ slot_limit;
      left : batch_answer (batch slots slot_limit l.fn.self.slots l.slots l.index-counter left_records l.data)
          ≡ batch_answer (told l.fn.self (update_many l.fn.pieces l.fn.used l.fn.data));
    }
