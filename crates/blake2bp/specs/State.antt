-- States: what waits and what has gone, the state that bytes lead to, and what each call answers.
-- Assumes nothing.
use Rattle.std.specs.Prelude.{Bool, false, cond, List, [], map, ℕ, leb, length, take, replicate}
use Rattle.definitions.specs.Words.{pad}
use Rattle.definitions.specs.Family.{BLAKE2b}
use Rattle.definitions.specs.Tree.{BLAKE2bp}
use Rattle.laws_words.specs.Bytes.{zeros}
use Rattle.laws_states.specs.Buffer.{Machine, Held}
use Rattle.laws_states.specs.Deal.{parallel, finished}
use Rattle.laws_states.specs.Leaves.{rooted, keyed_row, leaf_starts, root_start}
use Rattle.refusals.specs.Numbers.{accepted, bad_record, limit}
use Rattle.members.specs.Row.{digested}
use Rattle.members.specs.Row as row
use Rattle.members.specs.Keeper.{Bounds, Keeper, Reads, key_row}
use Rattle.members.specs.Keeper as calls
use Rattle.members.specs.Member.{Member}
use Rattle.members.specs.Member as members
use Rattle.hash.specs.Hash.{hash_of, digest_of, no_hash}
use Rattle.hash.specs.Answers.{HashAnswer}
use Rattle.blake2bp_leaves.specs.Sizes.{degree, blockbytes, outbytes}
use Rattle.blake2bp_leaves.specs.Leaves.{leaf_of, words_of, on_leaf}
use Rattle.blake2bp.specs.Sizes.{roombytes, keyrowbytes}
use Rattle.blake2bp.specs.Answers.{StateAnswer, CountAnswer, LeafCountAnswer, BufferedAnswer}
use Rattle.blake2bp.specs.Params.{in_range, key_of}
use Rattle.blake2bp_leaves.specs.declared.leaves.Leaf.{Leaf}
use Rattle.blake2bp.specs.declared.params.Params.{Params}
use Rattle.blake2bp.specs.declared.state.State.{State}

-- what a state buffers, and the state with something else in its place
abbrev pub core : State → Held (List Leaf)
core s = record { at = s.leaves; count = s.count.0; buf = s.buf; buflen = s.buf_len }

abbrev pub holding : State → Held (List Leaf) → State
holding s h = record {
  leaves = h.at;
  root_words = s.root_words;
  buf = h.buf;
  buf_len = h.buflen;
  count = record { 0 = h.count };
  hash_length = s.hash_length;
  is_keyed = s.is_keyed;
}

-- four leaves that are dealt blocks of 128 bytes: rows of 512 go, as long as more than 384 bytes stay, and 1,024 fit the buffer
abbrev pub machine : Machine (List Leaf)
machine = parallel blockbytes on_leaf degree

abbrev pub zero_state : State
zero_state = record {
  leaves = replicate degree (leaf_of (zeros 8));
  root_words = zeros 8;
  buf = zeros roombytes;
  buf_len = 0;
  count = record { 0 = 0 };
  hash_length = 0;
  is_keyed = false;
}

-- the row of key blocks in front of the message: none without a key
abbrev pub front : Params → List ℕ
front p = keyed_row BLAKE2b degree (key_of p) []

-- the longest digest, the two rows of the buffer, four bytes for each one counted of a leaf, a key block for each leaf, and the limit
abbrev pub bounds : Bounds
bounds = record { most = outbytes; room = roombytes; unit = degree; key = keyrowbytes; limit = limit }

-- what a key adds to the total
abbrev pub key_bytes : Params → ℕ
key_bytes p = key_row bounds (leb 1 p.key_length)

-- the state of no message bytes: the row of key blocks waits where there is a key
abbrev pub fresh : Params → State
fresh p = record {
  leaves = map leaf_of (leaf_starts BLAKE2b degree p.hash_length p.key_length);
  root_words = root_start BLAKE2b degree p.hash_length p.key_length;
  buf = pad roombytes (front p);
  buf_len = length (front p);
  count = record { 0 = 0 };
  hash_length = p.hash_length;
  is_keyed = leb 1 p.key_length;
}

-- the paper's digest of a whole message
abbrev pub digest : Params → List ℕ → List ℕ
digest p m = BLAKE2bp p.hash_length (key_of p) m

-- at the end the leaves end, and the root takes their states
abbrev pub keeper : Keeper State (List Leaf)
keeper = record {
  bounds = bounds;
  machine = machine;
  core = core;
  holding = holding;
  hash_length = λ s. s.hash_length;
  keyed = λ s. s.is_keyed;
  close = λ s l t d. take s.hash_length (rooted BLAKE2b s.root_words (map words_of (finished blockbytes on_leaf degree l t d)));
}

abbrev pub member : Member Params State (List Leaf)
member = record { keeper = keeper; good = in_range; fresh = fresh; front = front; ahead = key_bytes; digest = digest }

abbrev pub pending : State → List ℕ
pending = calls.pending keeper

abbrev pub moved : State → List ℕ → ℕ → State
moved = calls.moved keeper

abbrev pub pushed : State → List ℕ → State
pushed = calls.pushed keeper

abbrev pub total : State → ℕ
total = calls.total keeper

abbrev pub range_of : ℕ → ℕ → ℕ → Bool → Bool
range_of = calls.range_of bounds

abbrev pub state_in_range : State → Bool
state_in_range = calls.in_range keeper

-- this crate's records of the answers
abbrev pub reads : Reads State StateAnswer HashAnswer CountAnswer
reads = record {
  state = λ n s. record { number = n; state = s };
  made = λ d. record { number = accepted; hash = hash_of d };
  none = no_hash;
  count = λ n c. record { number = n; count = record { 0 = c } };
  number_of = λ u. u.number;
  state_of = λ u. u.state;
  digested_of = λ h. digested h.number (digest_of h.hash);
  counted_of = λ c. row.counted c.number c.count.0;
}

unfoldable pub opened : Params → StateAnswer
opened = members.open_answer member reads zero_state

unfoldable pub updated : State → List ℕ → StateAnswer
updated = calls.update_answer keeper reads

unfoldable pub finalized : State → HashAnswer
finalized = calls.hash_answer keeper reads

unfoldable pub counted : State → CountAnswer
counted = calls.count_answer keeper reads

unfoldable pub hashed : Params → List ℕ → HashAnswer
hashed = members.one_shot_answer member reads

-- what each leaf took
unfoldable pub leaf_counted : State → LeafCountAnswer
leaf_counted s = cond (state_in_range s) (record { number = accepted; count = s.count }) (record { number = bad_record; count = record { 0 = 0 } })

-- the bytes that wait
unfoldable pub buffered_in : State → BufferedAnswer
buffered_in s = cond (state_in_range s) (record { number = accepted; buffered = s.buf_len }) (record { number = bad_record; buffered = 0 })
