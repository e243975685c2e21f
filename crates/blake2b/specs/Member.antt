-- BLAKE2b as a member: how its parameters make a state begin, and RFC 7693's digest of a whole message; what opening and hashing answer.
-- Assumes nothing.
use Rattle.std.specs.Prelude.{List, ◌++◌, ℕ, leb, length, take}
use Rattle.definitions.specs.Family.{BLAKE2b}
use Rattle.definitions.specs.Hash.{start, untruncated}
use Rattle.members.specs.Member.{Member}
use Rattle.members.specs.Member as calls
use Rattle.hash.specs.Answers.{HashAnswer}
use Rattle.blake2b_state.specs.State.{begun, zero_state, keeper, reads}
use Rattle.blake2b_state.specs.declared.state.State.{State}
use Rattle.blake2b_state.specs.Answers.{StateAnswer}
use Rattle.blake2b.specs.Params.{in_range, asked, front}
use Rattle.blake2b.specs.declared.params.Params.{Params}

-- the state of no message bytes
abbrev pub fresh : Params → State
fresh p = begun (start BLAKE2b (asked p)) p.hash_length p.last_node (leb 1 p.key_length) p.key_block

-- the digest of a whole message, behind the key block where there is a key
abbrev pub digest : Params → List ℕ → List ℕ
digest p m = take p.hash_length (untruncated BLAKE2b (asked p) p.last_node (front p ++ m))

abbrev pub member : Member Params State (List ℕ)
member = record { keeper = keeper; good = in_range; fresh = fresh; front = front; ahead = λ p. length (front p); digest = digest }

unfoldable pub opened : Params → StateAnswer
opened = calls.open_answer member reads zero_state

unfoldable pub hashed : Params → List ℕ → HashAnswer
hashed = calls.one_shot_answer member reads
