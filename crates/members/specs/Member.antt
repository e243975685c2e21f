-- A member of the family: its keeper, and its parameters, which say how a state begins and what the paper's digest is; what opening a state and
-- the hash of a whole message answer; and its row. Assumes nothing.
use Rattle.std.specs.Prelude.{Bool, ℕ, ◌+◌, leb, length}
use mathlib.Core.List.{List, [], ◌∷◌, foldl}
use Rattle.refusals.specs.Numbers.{accepted, total_over, bad_record}
use Rattle.refusals.specs.Tests.{Test, test, tested}
use Rattle.members.specs.Row.{Taker, Row}
use Rattle.members.specs.Row as row
use Rattle.members.specs.Keeper.{Keeper, Reads, pushed}

-- P are its parameters
pub record Member (P S L : Type 0) : Type 0 where
  pub keeper : Keeper S L
  -- whether parameters are in range, the state of no message bytes, the key blocks in front of the message, their number
  pub good : P → Bool
  pub fresh : P → S
  pub front : P → List ℕ
  pub ahead : P → ℕ
  -- the paper's digest of a whole message
  pub digest : P → List ℕ → List ℕ

module _ {P S L : Type 0} (m : Member P S L) where
  abbrev pub limit : ℕ
  limit = m.keeper.bounds.limit

  -- the state of a message that came in these pieces
  abbrev pub reached : P → List (List ℕ) → S
  reached p ps = foldl (pushed m.keeper) (m.fresh p) ps

  -- 14, then 6
  abbrev pub open_tests : P → List Test
  open_tests p = test (m.good p) bad_record ∷ []

  abbrev pub hash_tests : P → List ℕ → List Test
  hash_tests p a = test (m.good p) bad_record ∷ test (leb (m.ahead p + length a) limit) total_over ∷ []

  module _ {A : Type 0} where
    abbrev pub opened : (S → A) → (ℕ → A) → P → A
    opened ok bad p = tested (open_tests p) (ok (m.fresh p)) bad

    abbrev pub hashed : (List ℕ → A) → (ℕ → A) → P → List ℕ → A
    hashed ok bad p a = tested (hash_tests p a) (ok (m.digest p a)) bad

  module _ {U H C : Type 0} (r : Reads S U H C) where
    abbrev pub open_answer : S → P → U
    open_answer zero p = opened (r.state accepted) (λ n. r.state n zero) p

    abbrev pub one_shot_answer : P → List ℕ → H
    one_shot_answer p a = hashed r.made r.none p a

  -- the row: its total counts the key blocks, and its digest is the paper's
  abbrev pub row_taker : Taker (Row P) (List ℕ)
  row_taker = row.row_taker limit (λ p bytes. m.ahead p + length bytes) m.digest
