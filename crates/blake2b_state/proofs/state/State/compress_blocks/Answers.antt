-- `blake2b_state::state::State::compress_blocks` meets its contract.
-- Assumes nothing.
use lib.ListN.{length}
use Rattle.members.proofs.Moves.{rows_none, rows_some}
use Rattle.blake2b_state.specs.State.{keeper}
use Rattle.blake2b_state.proofs.States.{laws}
use Rattle.blake2b_state.proofs.state.State.compress_blocks.Goals as goal

pub returns-then-blocks-eq0 : goal.returns-then-blocks-eq0
returns-then-blocks-eq0 c =
    rows_none keeper laws c.args.self c.args.input.now c.args.blocks c.requires.0 c.requires.1 c.if-blocks-eq0.true

pub returns : goal.returns
returns c =
    let a = c.args in
    let whole = c.requires.1 in
    rows_some keeper laws a.self a.input.now a.blocks c.requires.0 whole (length a.input.now) whole c.if-blocks-eq0.false
    c.absorbed.ensures c.zeroed.ensures
