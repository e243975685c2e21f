-- One state as what takes updates, digests and counts, and the row of a table: parameters, and every byte accepted.
-- The row's side goes by the paper's one-shot tree and by numbers of bytes alone. Assumes nothing.
use Rattle.std.specs.Prelude.{List, ℕ, ◌+◌, length}
use Rattle.definitions.specs.Tree.{BLAKE2bp}
use Rattle.refusals.specs.Numbers.{limit}
use Rattle.members.specs.Row.{Taker, Row, digested, counted}
use Rattle.members.specs.Row as rows
use Rattle.hash.specs.Hash.{digest_of}
use Rattle.blake2bp.specs.Params.{key_of}
use Rattle.blake2bp.specs.State.{key_bytes, updated, finalized}
use Rattle.blake2bp.specs.State as state
use Rattle.blake2bp.specs.declared.params.Params.{Params}
use Rattle.blake2bp.specs.declared.state.State.{State}

-- the state: each call as the crate's function of that name promises it
abbrev pub state_taker : Taker State (List ℕ)
state_taker = record {
  number = λ s a. (updated s a).number;
  next = λ s a. (updated s a).state;
  digested = λ s. digested (finalized s).number (digest_of (finalized s).hash);
  counted = λ s. counted (state.counted s).number (state.counted s).count.0;
}

-- the row: a key block for each leaf is part of the total
abbrev pub row_taker : Taker (Row Params) (List ℕ)
row_taker = rows.row_taker limit (λ p bytes. key_bytes p + length bytes) (λ p bytes. BLAKE2bp p.hash_length (key_of p) bytes)
