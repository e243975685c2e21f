-- `bank::bank::Bank::open` meets its contract.
-- Assumes nothing.
use Rattle.std.proofs.Common.{refl, rules}
use Rattle.blake2b_state.proofs.Exits.{handed_on}
use Rattle.bank.proofs.Steps.{params_refused, call_refused, slot_refused, slot_changed}
use Rattle.bank.proofs.bank.Bank.open.Goals as goal

pub returns-then-not-in_range : goal.returns-then-not-in_range
returns-then-not-in_range c = params_refused _ _ _ c.if-not-in_range.ensures

pub returns-in_err-check : goal.returns-in_err-check
returns-in_err-check c = rw (handed_on c.from_residual.ensures.1 refl) (call_refused _ _ _ c.if-not-in_range.ensures _ c.in_err-check.ensures.number)

pub returns-in_err-next : goal.returns-in_err-next
returns-in_err-next c =
    rw (handed_on c.from_residual-in_err-next.ensures.1 refl) (slot_refused _ _ _ c.if-not-in_range.ensures c.in_ok-check.ensures.number (search rules) _ _ c.in_err-next.ensures)

pub returns : goal.returns
returns c = slot_changed _ _ _ c.if-not-in_range.ensures c.in_ok-check.ensures.number (search rules) _ _ c.in_ok-next.ensures c.with.ensures
