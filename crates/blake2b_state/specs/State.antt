-- States: what waits and what has gone, how one begins, the state that bytes lead to, and what each call answers.
-- Assumes nothing.
use Rattle.std.specs.Prelude.{Bool, true, false, cond, List, [], ◌∷◌, ℕ, length, take}
use Rattle.definitions.specs.Words.{pad}
use Rattle.definitions.specs.Family.{BLAKE2b}
use Rattle.definitions.specs.Hash.{sequential, start, state_bytes}
use Rattle.laws_words.specs.Bytes.{zeros}
use Rattle.laws_blocks.specs.Blocks.{on_bytes, through_blocks}
use Rattle.laws_states.specs.Buffer.{Machine, Held, serial}
use Rattle.refusals.specs.Numbers.{accepted, digest_length, bad_record, limit}
use Rattle.refusals.specs.Tests.{test, tested}
use Rattle.members.specs.Row.{digested}
use Rattle.members.specs.Row as row
use Rattle.members.specs.Keeper.{Bounds, Keeper, Reads}
use Rattle.members.specs.Keeper as calls
use Rattle.hash.specs.Hash.{is_digest_length, hash_of, digest_of, no_hash}
use Rattle.hash.specs.Answers.{HashAnswer}
use Rattle.blake2b_state.specs.Sizes.{blockbytes, outbytes}
use Rattle.blake2b_state.specs.declared.state.State.{State}
use Rattle.blake2b_state.specs.Answers.{StateAnswer, CountAnswer}

-- what a state buffers, and the state with something else in its place
abbrev pub core : State → Held (List ℕ)
core s = record { at = s.words; count = s.count; buf = s.buf; buflen = s.buflen }

abbrev pub holding : State → Held (List ℕ) → State
holding s h = record {
  words = h.at;
  count = h.count;
  buf = h.buf;
  buflen = h.buflen;
  last_node = s.last_node;
  hash_length = s.hash_length;
  is_keyed = s.is_keyed;
}

-- blocks, of which the last stays until more comes
abbrev pub machine : Machine (List ℕ)
machine = serial blockbytes (on_bytes BLAKE2b)

abbrev pub zero_state : State
zero_state = record { words = zeros 8; count = 0; buf = zeros blockbytes; buflen = 0; last_node = false; hash_length = 0; is_keyed = false }

-- the key block in front of the message: none without a key
unfoldable pub key_front : Bool → List ℕ → List ℕ
key_front keyed block = cond keyed block []

-- the state of no message bytes, from its words, digest length and flag: the key block waits where there is a key
abbrev pub begun : List ℕ → ℕ → Bool → Bool → List ℕ → State
begun words hash_length last_node keyed block = record {
  words = words;
  count = 0;
  buf = pad blockbytes (key_front keyed block);
  buflen = length (key_front keyed block);
  last_node = last_node;
  hash_length = hash_length;
  is_keyed = keyed;
}

-- and what is answered for it: 1 where no digest has that length
unfoldable pub beginning : List ℕ → ℕ → Bool → Bool → List ℕ → StateAnswer
beginning words n last_node keyed block =
    tested (test (is_digest_length n) digest_length ∷ []) (record { number = accepted; state = begun words n last_node keyed block }) (λ m. record { number = m; state = zero_state })

-- that of RFC 7693's plain hash: no key, and the longest digest
abbrev pub plain : State
plain = begun (start BLAKE2b (sequential outbytes 0)) outbytes false false (zeros blockbytes)

-- the longest digest, the block of the buffer, one byte for each one counted, the key block, and the limit
abbrev pub bounds : Bounds
bounds = record { most = outbytes; room = blockbytes; unit = 1; key = blockbytes; limit = limit }

abbrev pub keeper : Keeper State (List ℕ)
keeper = record {
  bounds = bounds;
  machine = machine;
  core = core;
  holding = holding;
  hash_length = λ s. s.hash_length;
  keyed = λ s. s.is_keyed;
  close = λ s w t d. take s.hash_length (state_bytes BLAKE2b (through_blocks BLAKE2b blockbytes w t true s.last_node d));
}

abbrev pub pending : State → List ℕ
pending = calls.pending keeper

abbrev pub moved : State → List ℕ → ℕ → State
moved = calls.moved keeper

abbrev pub pushed : State → List ℕ → State
pushed = calls.pushed keeper

abbrev pub total : State → ℕ
total = calls.total keeper

abbrev pub state_in_range : State → Bool
state_in_range = calls.in_range keeper

abbrev pub closed_digest : State → List ℕ
closed_digest = calls.closed_digest keeper

-- the paper's records of the answers
abbrev pub reads : Reads State StateAnswer HashAnswer CountAnswer
reads = record {
  state = λ n s. record { number = n; state = s };
  made = λ d. record { number = accepted; hash = hash_of d };
  none = no_hash;
  count = λ n c. record { number = n; count = c };
  number_of = λ u. u.number;
  state_of = λ u. u.state;
  digested_of = λ h. digested h.number (digest_of h.hash);
  counted_of = λ c. row.counted c.number c.count;
}

unfoldable pub updated : State → List ℕ → StateAnswer
updated = calls.update_answer keeper reads

unfoldable pub finalized : State → HashAnswer
finalized = calls.hash_answer keeper reads

unfoldable pub counted : State → CountAnswer
counted = calls.count_answer keeper reads

abbrev pub with_last_node : State → Bool → State
with_last_node s up = record {
  words = s.words;
  count = s.count;
  buf = s.buf;
  buflen = s.buflen;
  last_node = up;
  hash_length = s.hash_length;
  is_keyed = s.is_keyed;
}

unfoldable pub last_node_set : State → Bool → StateAnswer
last_node_set s up = tested (test (state_in_range s) bad_record ∷ []) (reads.state accepted (with_last_node s up)) (λ n. reads.state n s)
