-- `blake2bp::state::State::zero` meets its contract.
-- Assumes nothing.
use mathlib.Core.Path.{ap}
use mathlib.Core.List.{List}
use Prim.Native.Nat.{ℕ}
use Rattle.laws_words.specs.Bytes.{zeros}
use Rattle.blake2bp.specs.State.{zero_state}
use Rattle.blake2bp.proofs.state.State.zero.Goals as goal

pub returns : goal.returns
unfolding zeros
returns c = ap (λ (b : List ℕ). record zero_state { buf = b }) c.zeroed.ensures
