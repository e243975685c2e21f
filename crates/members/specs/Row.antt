-- What takes changes, digests and counts in any order, and what it answers; and the row of a table, which holds parameters and every byte
-- accepted, over any digest and any rule for the total. Assumes nothing.
use Rattle.std.specs.Prelude.{List, [], ◌∷◌, ◌++◌, ℕ, ◌+◌, leb, length}
use Rattle.refusals.specs.Numbers.{accepted, total_over}
use Rattle.refusals.specs.Tests.{Test, test, first, tested}

pub record Answer : Type 0 where
  -- 0, or document 01's refusal
  pub number : ℕ
  -- of a refused batch: the first bad record's
  pub index : ℕ
  -- a count, or the length written
  pub value : ℕ
  -- a digest, or what an output holds after the call
  pub bytes : List ℕ

-- a number and zeros; with a digest; with a count
abbrev pub numbered : ℕ → Answer
numbered n = record { number = n; index = 0; value = 0; bytes = [] }

abbrev pub digested : ℕ → List ℕ → Answer
digested n d = record { number = n; index = 0; value = 0; bytes = d }

abbrev pub counted : ℕ → ℕ → Answer
counted n c = record { number = n; index = 0; value = c; bytes = [] }

-- A is what changes it: bytes that come, for one
pub data Call (A : Type 0) : Type 0 where
  change : A → Call A
  digest : Call A
  count : Call A

-- the number that a change answers, what is there after it, and what a digest and a count answer: they change nothing
pub record Taker (X A : Type 0) : Type 0 where
  pub number : X → A → ℕ
  pub next : X → A → X
  pub digested : X → Answer
  pub counted : X → Answer

module _ {X A : Type 0} (taker : Taker X A) where
  abbrev pub says : X → Call A → Answer
  says x (change a) = numbered (taker.number x a)
  says x digest = taker.digested x
  says x count = taker.counted x

  abbrev pub after : X → Call A → X
  after x (change a) = taker.next x a
  after x digest = x
  after x count = x

  unfoldable pub answers : X → List (Call A) → List Answer
  answers x [] = []
  answers x (c ∷ cs) = says x c ∷ answers (after x c) cs

pub record Row (P : Type 0) : Type 0 where
  pub params : P
  pub bytes : List ℕ

abbrev pub row : {P : Type 0} → P → List ℕ → Row P
row p bytes = record { params = p; bytes = bytes }

-- rows, given the greatest total, the total that bytes make with a key, and their digest: bytes are accepted where the total stays within the
-- limit, and the count is their number
module _ {P : Type 0} (limit : ℕ) (total : P → List ℕ → ℕ) (hash : P → List ℕ → List ℕ) where
  abbrev pub row_tests : Row P → List ℕ → List Test
  row_tests r a = test (leb (total r.params r.bytes + length a) limit) total_over ∷ []

  abbrev pub row_taker : Taker (Row P) (List ℕ)
  row_taker = record {
    number = λ r a. first (row_tests r a);
    next = λ r a. row r.params (tested (row_tests r a) (r.bytes ++ a) (λ n. r.bytes));
    digested = λ r. digested accepted (hash r.params r.bytes);
    counted = λ r. counted accepted (length r.bytes);
  }
