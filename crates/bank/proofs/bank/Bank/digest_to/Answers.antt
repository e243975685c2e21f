-- `bank::bank::Bank::digest_to` meets its contract.
-- Assumes nothing.
use Rattle.std.proofs.Common.{refl}
use Rattle.blake2b_state.proofs.Exits.{handed_on}
use Rattle.bank.proofs.Written.{output_refused, output_written}
use Rattle.bank.proofs.bank.Bank.digest_to.Goals as goal

pub returns-in_err-digest : goal.returns-in_err-digest
returns-in_err-digest c = rw (handed_on c.from_residual.ensures.1 refl) (output_refused _ _ _ _ c.in_err-digest.ensures)

pub returns : goal.returns
returns c = output_written _ _ _ _ c.in_ok-digest.ensures c.write_bytes.ensures.0 c.write_bytes.ensures.1
