-- `blake2b_state::state::State::fill_buf` meets its contract.
-- Assumes nothing.
use mathlib.Core.Path.{◌≡◌}
use native.Mathlib.Omega.{arith}
use lib.ListN.{length}
use Rattle.members.proofs.Moves.{filled}
use Rattle.blake2b_state.specs.Sizes.{blockbytes}
use Rattle.blake2b_state.specs.State.{keeper}
use Rattle.blake2b_state.proofs.States.{laws}
use borrow.Author.Rules.{rules}
use Rattle.blake2b_state.proofs.state.State.fill_buf.Goals as goal
use Rattle.blake2b_state.proofs.state.State.fill_buf.Goals.{Start}

sized : (c : Start) → length c.args.self.buf ≡ blockbytes
sized c = search rules

pub returns : goal.returns
returns c =
    filled keeper laws c.args.self (record { sized = sized (goal.at.returns c).Start; held = omega arith }) c.args.input.now c.store.ensures
