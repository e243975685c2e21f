-- `bank::bank::Bank::digest` meets its contract.
-- Assumes nothing.
use Rattle.std.proofs.Common.{refl, rules, ap, ◌∙◌}
use Rattle.bank.specs.Rules.{digest}
use Rattle.bank.specs.Slots.{hash_answer}
use Rattle.blake2b_state.proofs.Exits.{handed_on}
use Rattle.bank.proofs.Steps.{hash_refused, answer_of_slot}
use Rattle.bank.proofs.bank.Bank.digest.Goals as goal

pub returns-in_err-check : goal.returns-in_err-check
returns-in_err-check c = rw (handed_on c.from_residual.ensures.1 refl) (hash_refused _ _ _ c.in_err-check.ensures.number)

pub returns : goal.returns
returns c = c.digest.ensures ∙ ap hash_answer (answer_of_slot _ _ digest refl c.in_ok-check.ensures.number (search rules) _)
