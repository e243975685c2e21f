-- `bank_lent::update_many` meets its contract: the copy serves where all records are copied, or more were lent than a batch may have.
-- Assumes nothing.
use Rattle.std.proofs.Common.{refl, arith, ap, ◌∙◌}
use Rattle.bank.specs.Slots.{batch_answer}
use Rattle.bank_lent.proofs.Copies.{copies_front, copies_serve}
use Rattle.bank_lent.proofs.update_many.Goals as goal

pub returns : goal.returns
returns c =
    let qs = c.args.pieces.now in
    let front = c.min-front in
    c.update_many.ensures
    ∙ ap batch_answer
    (copies_serve c.args.bank front.result _ qs c.args.data.now (λ l. omega (arith, front.ensures)) (copies_front front.result _ qs refl front.ensures c.copy_from_slice.ensures.after))
