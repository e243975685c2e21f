-- `bank::slot::Slot::digest` meets its contract.
-- Assumes nothing.
use Rattle.std.proofs.Common.{arith}
use Rattle.std.proofs.lemmas.Grind.{common_steps}
use Rattle.definitions.specs.Words.{pad}
use Rattle.laws_words.specs.Bytes.{zeros}
use Rattle.bank.specs.Rules.{reply}
use Rattle.bank.proofs.Replies.{record_of_digest}
use Rattle.bank.proofs.slot.Slot.digest.Goals as goal

pub returns-in_err-opened : goal.returns-in_err-opened
unfolding reply pad zeros
returns-in_err-opened c = grind (arith, common_steps)

pub returns : goal.returns
unfolding reply
returns c = grind (arith, common_steps, record_of_digest c.args.self.state)
