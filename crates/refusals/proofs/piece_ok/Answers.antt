-- `refusals::piece_ok` meets its contract.
-- Assumes nothing.
use Rattle.std.proofs.Common.{rules}
use Rattle.refusals.specs.Numbers.{piece_ok}
use Rattle.refusals.proofs.piece_ok.Goals as goal

pub returns-then-start-data_length : goal.returns-then-start-data_length
unfolding piece_ok
returns-then-start-data_length c = search rules

pub returns-else-start-data_length : goal.returns-else-start-data_length
unfolding piece_ok
returns-else-start-data_length c = search rules
