-- A state that keeps bytes in a buffer, as its calls see it: its bounds, what it holds, and what an update, a digest and a count answer.
-- An answer is read by two functions, of what was accepted and of a refusal. Assumes nothing.
use Rattle.std.specs.Prelude.{Bool, cond, ◌&&◌, List, [], ◌∷◌, ℕ, ◌+◌, ◌-◌, ◌*◌, leb, length}
use Rattle.laws_states.specs.Buffer.{Machine, Held}
use Rattle.laws_states.specs.Buffer as buffer
use Rattle.refusals.specs.Numbers.{accepted, total_over, bad_record, is_length}
use Rattle.refusals.specs.Tests.{Test, test, tested}
use Rattle.members.specs.Row.{Answer, digested, counted, Taker}

pub record Bounds : Type 0 where
  -- the longest digest; the bytes of the buffer; the bytes that came for each one counted; what a key adds to the total; the greatest total
  pub most : ℕ
  pub room : ℕ
  pub unit : ℕ
  pub key : ℕ
  pub limit : ℕ

module _ (z : Bounds) where
  -- message bytes and key block bytes, of a count and the bytes buffered
  abbrev pub total_of : ℕ → ℕ → ℕ
  total_of count buflen = z.unit * count + buflen

  abbrev pub key_row : Bool → ℕ
  key_row keyed = cond keyed z.key 0

  -- the ranges of refusal 14
  unfoldable pub range_of : ℕ → ℕ → ℕ → Bool → Bool
  range_of n b t keyed = is_length z.most n && (leb b z.room && (leb (total_of t b) z.limit && leb (key_row keyed) (total_of t b)))

-- S are its states, and L is what its machine works on
pub record Keeper (S L : Type 0) : Type 0 where
  pub bounds : Bounds
  pub machine : Machine L
  -- what a state buffers, and the state with something else in its place
  pub core : S → Held L
  pub holding : S → Held L → S
  pub hash_length : S → ℕ
  pub keyed : S → Bool
  -- the digest that a state gives of what has gone, the count, and what waits
  pub close : S → L → ℕ → List ℕ → List ℕ

module _ {S L : Type 0} (k : Keeper S L) where
  open k use {bounds, machine, core, holding}

  abbrev pub pending : S → List ℕ
  pending s = buffer.pending (core s)

  -- the state s with the bytes all in place of its pending ones, n rows of them gone
  abbrev pub moved : S → List ℕ → ℕ → S
  moved s all n = holding s (buffer.moved machine (core s) all n)

  -- the state s once the bytes a came
  abbrev pub pushed : S → List ℕ → S
  pushed s a = holding s (buffer.pushed machine (core s) a)

  abbrev pub total : S → ℕ
  total s = total_of bounds (core s).count (core s).buflen

  abbrev pub in_range : S → Bool
  in_range s = range_of bounds (k.hash_length s) (core s).buflen (core s).count (k.keyed s)

  -- the digest of what has gone and what waits
  abbrev pub closed_digest : S → List ℕ
  closed_digest s = k.close s (core s).at (core s).count (pending s)

  -- the tests of each call: 14 where the record is bad, 6 where the total would pass the limit
  abbrev pub ask_tests : S → List Test
  ask_tests s = test (in_range s) bad_record ∷ []

  abbrev pub update_tests : S → List ℕ → List Test
  update_tests s a = test (in_range s) bad_record ∷ test (leb (total s + length a) bounds.limit) total_over ∷ []

  module _ {A : Type 0} where
    abbrev pub updated : (S → A) → (ℕ → A) → S → List ℕ → A
    updated ok bad s a = tested (update_tests s a) (ok (pushed s a)) bad

    abbrev pub finalized : (List ℕ → A) → (ℕ → A) → S → A
    finalized ok bad s = tested (ask_tests s) (ok (closed_digest s)) bad

    -- the message bytes that came
    abbrev pub counts : (ℕ → A) → (ℕ → A) → S → A
    counts ok bad s = tested (ask_tests s) (ok (total s - key_row bounds (k.keyed s))) bad

  -- the state: each call by its number and what it hands back
  abbrev pub state_taker : Taker S (List ℕ)
  state_taker = record {
    number = λ s a. updated (λ t. accepted) (λ n. n) s a;
    next = λ s a. updated (λ t. t) (λ n. s) s a;
    digested = λ s. finalized (digested accepted) (λ n. digested n []) s;
    counted = λ s. counts (counted accepted) (λ n. counted n 0) s;
  }

-- how a crate's records hold an answer: a state, a digest or none, a count; and what is read of them
pub record Reads (S U H C : Type 0) : Type 0 where
  pub state : ℕ → S → U
  pub made : List ℕ → H
  pub none : ℕ → H
  pub count : ℕ → ℕ → C
  pub number_of : U → ℕ
  pub state_of : U → S
  pub digested_of : H → Answer
  pub counted_of : C → Answer

-- the calls of a crate
module _ {S L U H C : Type 0} (k : Keeper S L) (r : Reads S U H C) where
  abbrev pub update_answer : S → List ℕ → U
  update_answer s a = updated k (r.state accepted) (λ n. r.state n s) s a

  abbrev pub hash_answer : S → H
  hash_answer s = finalized k r.made r.none s

  abbrev pub count_answer : S → C
  count_answer s = counts k (r.count accepted) (λ n. r.count n 0) s

  abbrev pub taker : Taker S (List ℕ)
  taker = record {
    number = λ s a. r.number_of (update_answer s a);
    next = λ s a. r.state_of (update_answer s a);
    digested = λ s. r.digested_of (hash_answer s);
    counted = λ s. r.counted_of (count_answer s);
  }
