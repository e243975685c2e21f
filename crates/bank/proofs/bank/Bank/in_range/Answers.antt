-- `bank::bank::Bank::in_range` meets its contract.
-- Assumes nothing.
use Rattle.std.proofs.Common.{◌∙◌, rules, tests}
use Rattle.std.proofs.lemmas.Iterator.{YieldsList-from_slice}
use Rattle.std.proofs.lemmas.Iterator.Search.{all_from_yields_List}
use Rattle.bank.specs.Slots.{slot_good}
use Rattle.bank.proofs.Steps.{every_is}
use Rattle.bank.proofs.bank.Bank.in_range.Goals as goal

pub returns : goal.returns
returns c =
    all_from_yields_List slot_good _ _ c.all.result c.all.ensures.ran (YieldsList-from_slice c.args.self.now.slots cc) (λ x b q k. search (rules, tests))
    ∙ every_is slot_good c.args.self.now.slots
