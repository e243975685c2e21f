-- `blake2b_state::state::State::compress_buffer` meets its contract.
-- Assumes nothing.
use mathlib.Core.Path.{◌≡◌, refl}
use lib.ListN.{length}
use Rattle.members.proofs.Moves.{one_gone}
use Rattle.blake2b_state.specs.Sizes.{blockbytes}
use Rattle.blake2b_state.specs.State.{keeper}
use Rattle.blake2b_state.proofs.States.{laws}
use borrow.Author.Rules.{rules}
use Rattle.blake2b_state.proofs.state.State.compress_buffer.Goals as goal
use Rattle.blake2b_state.proofs.state.State.compress_buffer.Goals.{Start}

sized : (c : Start) → length c.args.self.buf ≡ blockbytes
sized c = search rules

pub returns : goal.returns
returns c =
    one_gone keeper laws c.args.self (sized (goal.at.returns c).Start) c.requires.0 refl c.absorbed.ensures c.zeroed.ensures
