-- `bank_lent::update_many_of_array` meets its contract: the front of the array is a list of just its records.
-- Assumes nothing.
use Rattle.std.proofs.Common.{◌≡◌, refl, rules, ap, ◌∙◌}
use lib.ListN.{length, take}
use Rattle.bank.specs.Slots.{slots, slot_limit, batch_limit, batch_answer}
use Rattle.bank_lent.proofs.Fronts.{front_serves}
use Rattle.bank_lent.proofs.update_many_of_array.Goals as goal

pub returns : goal.returns
returns c =
    let ps = c.args.pieces in
    let used = c.args.used in
    let counted : length (take used ps) ≡ used = search (rules, c.if-used-gt-MOST_RECORDS.false) in
    c.update_many-2.ensures ∙ ap batch_answer (front_serves slots slot_limit batch_limit c.args.bank.slots c.args.data.now ps (take used ps) used (refl, counted))
