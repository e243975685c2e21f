-- Document 01's sixteen worked cases, A to P: for every message of the stated length and every key of 1 to 64 bytes, or none.
-- Assumes nothing; proofs/Worked.antt proves the table.
use Rattle.std.specs.Prelude.{◌≡◌, Bool, true, false, ℕ, ◌<◌, ◌≤◌, length}
use mathlib.Core.List.{List, [], ◌∷◌, map, foldl}
use Rattle.definitions.specs.Words.{◌!◌, from}
use Rattle.definitions.specs.Family.{BLAKE2b}
use Rattle.definitions.specs.Hash.{Parameters, Call, sequential, start, keyed, calls}
use Rattle.definitions.specs.Tree.{leaf_data, parameters}

pub data Question : Type 0 where
  -- BLAKE2b, of a message of n bytes, with a key or not: how many calls of F, the last one's count and its block's bytes
  chain : Bool → ℕ → Question
  -- BLAKE2bp: the bytes that each leaf hashes
  leaves : Bool → ℕ → Question
  -- the words of the first state at these places
  first_words : Parameters → List ℕ → Question

-- a key, or none
abbrev pub Key : Bool → List ℕ → Type 0
Key true key = (0 < length key) × (length key ≤ 64)
Key false key = length key ≡ 0

-- what is seen of the last of several calls
abbrev pub seen : List ℕ → Call → List ℕ
seen r c = c.count ∷ length c.block ∷ []

unfoldable pub summary : List Call → List ℕ
summary cs = length cs ∷ foldl seen [] cs

abbrev pub Holds : Question → List ℕ → Type 0
Holds (chain k n) a = (key m : List ℕ) → Key k key → length m ≡ n → summary (calls BLAKE2b false (keyed BLAKE2b key m)) ≡ a
Holds (leaves k n) a = (key m : List ℕ) → Key k key → length m ≡ n → map (λ i. length (leaf_data BLAKE2b 4 key m i)) (from 0 4) ≡ a
Holds (first_words p places) a = map (λ i. start BLAKE2b p ! i) places ≡ a

pub record Case : Type 0 where
  pub question : Question
  pub answer : List ℕ

infix 60 ◌gives◌
abbrev pub ◌gives◌ : Question → List ℕ → Case
q gives a = record { question = q; answer = a }

unfoldable pub table : List Case
table =
    (chain false 0 gives 1 ∷ 0 ∷ 0 ∷ [])  -- A
    ∷ (chain false 1 gives 1 ∷ 1 ∷ 1 ∷ [])  -- B
    ∷ (chain false 128 gives 1 ∷ 128 ∷ 128 ∷ [])  -- C
    ∷ (chain false 129 gives 2 ∷ 129 ∷ 1 ∷ [])  -- D
    ∷ (chain false 256 gives 2 ∷ 256 ∷ 128 ∷ [])  -- E
    ∷ (chain true 0 gives 1 ∷ 128 ∷ 128 ∷ [])  -- F
    ∷ (chain true 1 gives 2 ∷ 129 ∷ 1 ∷ [])  -- G
    ∷ (chain true 128 gives 2 ∷ 256 ∷ 128 ∷ [])  -- H
    ∷ (leaves false 0 gives 0 ∷ 0 ∷ 0 ∷ 0 ∷ [])  -- I
    ∷ (leaves false 130 gives 128 ∷ 2 ∷ 0 ∷ 0 ∷ [])  -- J
    ∷ (leaves false 513 gives 129 ∷ 128 ∷ 128 ∷ 128 ∷ [])  -- K
    ∷ (leaves true 0 gives 128 ∷ 128 ∷ 128 ∷ 128 ∷ [])  -- L
    ∷ (leaves true 1 gives 129 ∷ 128 ∷ 128 ∷ 128 ∷ [])  -- M
    ∷ (leaves false 1025 gives 257 ∷ 256 ∷ 256 ∷ 256 ∷ [])  -- N
    ∷ (first_words (sequential 64 0) (0 ∷ []) gives 0x6A09E667F2BDC948 ∷ [])  -- O
    ∷ (first_words (parameters BLAKE2b 4 64 0 0 0) (0 ∷ 2 ∷ []) gives 0x6A09E667F1B8C948 ∷ 0x3C6EF372FE94B82B ∷ [])  -- P
    ∷ []

abbrev pub Each : List Case → Type 0
Each [] = Unit
Each (c ∷ t) = Holds c.question c.answer × Each t
