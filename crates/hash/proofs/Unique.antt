-- Two answers that meet a public promise are equal, for every public function: one law, cited of the contract itself. A weaker promise
-- would be refused here. Assumes nothing.
use mathlib.Core.Path.{◌≡◌, sym, ap, ◌∙◌}
use mathlib.Core.Bool.{Bool, false}
use Prim.Native.Nat.{ℕ}
use Rattle.std.specs.Prelude.{Result}
use Rattle.refusals.specs.declared.refusal.Refusal.{Refusal}
use Rattle.refusals.proofs.Settled.{settled}
use Rattle.hash.specs.Answers.{HashAnswer, LengthAnswer, EqualAnswer, zero_hash, as_hash_answer, as_length_answer, as_equal_answer}
use Rattle.hash.specs.declared.Hash.{Hash}
use Rattle.hash.proofs.is_digest_length.Reads as is_digest_length
use Rattle.hash.proofs.Hash.zero.Reads as hash_zero
use Rattle.hash.proofs.Hash.from_state.Reads as hash_from_state
use Rattle.hash.proofs.Hash.from_bytes.Reads as hash_from_bytes
use Rattle.hash.proofs.Hash.in_range.Reads as hash_in_range_lem
use Rattle.hash.proofs.Hash.len.Reads as hash_len
use Rattle.hash.proofs.Hash.equals.Reads as hash_equals
use Rattle.hash.proofs.Hash.equals_bytes.Reads as hash_equals_bytes
use Rattle.hash.proofs.Hash.write_bytes.Reads as hash_write_bytes
use Rattle.hash.proofs.Hash.write_hex.Reads as hash_write_hex
use Rattle.hash.proofs.Hash.written_bytes.Reads as hash_written_bytes
use Rattle.hash.proofs.Hash.written_hex.Reads as hash_written_hex
use Rattle.hash.proofs.output.write.Reads as write

-- a promise that no two answers meet
abbrev pub Unique : {K : Type 0} {A : K → Type 0} {R : (k : K) → A k → Type 0} {E : K → Type 0} → ((k : K) (a : A k) → R k a → E k → Type 0) → Type 0
Unique {K} {A} {R} {E} Post = (κs : K) (args : A κs) (r q : R κs args) (exit : E κs) → Post κs args r exit → Post κs args q exit → r ≡ q

-- what a promise `r ≡ answer` settles
pub unique : {A : Type 0} {a r q : A} → r ≡ a → q ≡ a → r ≡ q
unique e f = e ∙ sym f

-- and a Result that is read as one answer
pub hash_settled : {r q : Result Hash Refusal} → as_hash_answer r ≡ as_hash_answer q → r ≡ q
hash_settled e = settled zero_hash (ap (λ (a : HashAnswer). a.number) e) (ap (λ (a : HashAnswer). a.hash) e)

pub length_settled : {r q : Result ℕ Refusal} → as_length_answer r ≡ as_length_answer q → r ≡ q
length_settled e = settled 0 (ap (λ (a : LengthAnswer). a.number) e) (ap (λ (a : LengthAnswer). a.length) e)

pub equal_settled : {r q : Result Bool Refusal} → as_equal_answer r ≡ as_equal_answer q → r ≡ q
equal_settled e = settled false (ap (λ (a : EqualAnswer). a.number) e) (ap (λ (a : EqualAnswer). a.equal) e)

pub is_digest_length_unique : Unique is_digest_length.Post
is_digest_length_unique κs args r q exit e f = unique e f

pub hash_zero_unique : Unique hash_zero.Post
hash_zero_unique κs args r q exit e f = unique e f

pub hash_from_state_unique : Unique hash_from_state.Post
hash_from_state_unique κs args r q exit e f = hash_settled (unique e f)

pub hash_from_bytes_unique : Unique hash_from_bytes.Post
hash_from_bytes_unique κs args r q exit e f = unique e f

pub hash_in_range_unique : Unique hash_in_range_lem.Post
hash_in_range_unique κs args r q exit e f = unique e f

pub hash_len_unique : Unique hash_len.Post
hash_len_unique κs args r q exit e f = length_settled (unique e f)

pub hash_equals_unique : Unique hash_equals.Post
hash_equals_unique κs args r q exit e f = equal_settled (unique e f)

pub hash_equals_bytes_unique : Unique hash_equals_bytes.Post
hash_equals_bytes_unique κs args r q exit e f = equal_settled (unique e f)

pub hash_write_bytes_unique : (κs : _) (args : _) (r q : _) (x y : _) → hash_write_bytes.Post κs args r x → hash_write_bytes.Post κs args q y → (r ≡ q) × (x.1.0.now ≡ y.1.0.now)
hash_write_bytes_unique κs args r q x y e f = (length_settled (unique e.0 f.0), unique e.1 f.1)

pub hash_write_hex_unique : (κs : _) (args : _) (r q : _) (x y : _) → hash_write_hex.Post κs args r x → hash_write_hex.Post κs args q y → (r ≡ q) × (x.1.0.now ≡ y.1.0.now)
hash_write_hex_unique κs args r q x y e f = (length_settled (unique e.0 f.0), unique e.1 f.1)

pub hash_written_bytes_unique : (κs : _) (args : _) (r q : _) (exit : _) → hash_written_bytes.Post κs args r exit → hash_written_bytes.Post κs args q exit → r.now ≡ q.now
hash_written_bytes_unique κs args r q exit e f = unique e f

pub hash_written_hex_unique : (κs : _) (args : _) (r q : _) (exit : _) → hash_written_hex.Post κs args r exit → hash_written_hex.Post κs args q exit → r.now ≡ q.now
hash_written_hex_unique κs args r q exit e f = unique e f

pub write_unique : (κs : _) (args : _) (r q : _) (x y : _) → write.Post κs args r x → write.Post κs args q y → (r ≡ q) × (x.1.0.now ≡ y.1.0.now)
write_unique κs args r q x y e f = (length_settled (unique e.0 f.0), unique e.1 f.1)
