-- One state as what takes updates, flags of the last node, digests and counts, and the row of a table: parameters, and every byte accepted.
-- The row's side goes by RFC 7693's one-shot hash and by numbers of bytes alone. Assumes nothing.
use Rattle.std.specs.Prelude.{Bool, List, ℕ, length}
use Rattle.definitions.specs.Family.{BLAKE2b}
use Rattle.definitions.specs.Hash.{keyed, hash}
use Rattle.refusals.specs.Numbers.{accepted, limit}
use Rattle.members.specs.Row.{Taker, Row, row, digested, counted}
use Rattle.members.specs.Row as rows
use Rattle.blake2b.specs.Params.{asked, key_of, with_last_node}
use Rattle.blake2b_state.specs.State.{updated, finalized, last_node_set}
use Rattle.blake2b_state.specs.State as state
use Rattle.hash.specs.Hash.{digest_of}
use Rattle.blake2b.specs.declared.params.Params.{Params}
use Rattle.blake2b_state.specs.declared.state.State.{State}

-- what changes a state: bytes that come, or another flag
pub data Change : Type 0 where
  update : List ℕ → Change
  set_last_node : Bool → Change

-- the state: each call as the crate's function of that name promises it
abbrev pub state_taker : Taker State (List ℕ)
state_taker = record {
  number = λ s a. (updated s a).number;
  next = λ s a. (updated s a).state;
  digested = λ s. digested (finalized s).number (digest_of (finalized s).hash);
  counted = λ s. counted (state.counted s).number (state.counted s).count;
}

-- the row: the key block is part of the total
abbrev pub row_taker : Taker (Row Params) (List ℕ)
row_taker = rows.row_taker limit (λ p bytes. length (keyed BLAKE2b (key_of p) bytes)) (λ p bytes. hash BLAKE2b (asked p) p.last_node (key_of p) bytes)

-- with flags: the row's is the one of its parameters, and is always accepted
abbrev pub state_number : State → Change → ℕ
state_number s (update a) = state_taker.number s a
state_number s (set_last_node up) = (last_node_set s up).number

abbrev pub state_next : State → Change → State
state_next s (update a) = state_taker.next s a
state_next s (set_last_node up) = (last_node_set s up).state

abbrev pub row_number : Row Params → Change → ℕ
row_number r (update a) = row_taker.number r a
row_number r (set_last_node up) = accepted

abbrev pub row_next : Row Params → Change → Row Params
row_next r (update a) = row_taker.next r a
row_next r (set_last_node up) = row (with_last_node up r.params) r.bytes

abbrev pub state_calls : Taker State Change
state_calls = record { number = state_number; next = state_next; digested = state_taker.digested; counted = state_taker.counted }

abbrev pub row_calls : Taker (Row Params) Change
row_calls = record { number = row_number; next = row_next; digested = row_taker.digested; counted = row_taker.counted }
