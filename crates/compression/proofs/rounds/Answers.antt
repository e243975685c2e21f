-- `compression::rounds` meets its contract, round by round.
-- Assumes nothing.
use Rattle.definitions.specs.Compress.{rounds_to}
use Rattle.compression.proofs.rounds.Goals as goal

pub returns : goal.returns
unfolding rounds_to
returns c = cc
