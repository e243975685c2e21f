-- The compression function F (RFC 7693, sections 2.7, 3.1 and 3.2), with the paper's second flag, for the last node of a tree.
-- Assumes nothing.
use Rattle.std.specs.Prelude.{Bool, cond, List, [], ◌∷◌, ◌++◌, map, ℕ, zero, suc, ◌+◌, ◌-◌, ◌/◌, ◌%◌, ◌^◌, get_or, set}
use Rattle.definitions.specs.Words.{◌⊕◌, ◌!◌, rotr, from}
use Rattle.definitions.specs.Family.{Family}

-- section 2.7: the order of the message words in each round
unfoldable pub SIGMA : List (List ℕ)
SIGMA =
    (0 ∷ 1 ∷ 2 ∷ 3 ∷ 4 ∷ 5 ∷ 6 ∷ 7 ∷ 8 ∷ 9 ∷ 10 ∷ 11 ∷ 12 ∷ 13 ∷ 14 ∷ 15 ∷ [])
    ∷ (14 ∷ 10 ∷ 4 ∷ 8 ∷ 9 ∷ 15 ∷ 13 ∷ 6 ∷ 1 ∷ 12 ∷ 0 ∷ 2 ∷ 11 ∷ 7 ∷ 5 ∷ 3 ∷ [])
    ∷ (11 ∷ 8 ∷ 12 ∷ 0 ∷ 5 ∷ 2 ∷ 15 ∷ 13 ∷ 10 ∷ 14 ∷ 3 ∷ 6 ∷ 7 ∷ 1 ∷ 9 ∷ 4 ∷ [])
    ∷ (7 ∷ 9 ∷ 3 ∷ 1 ∷ 13 ∷ 12 ∷ 11 ∷ 14 ∷ 2 ∷ 6 ∷ 5 ∷ 10 ∷ 4 ∷ 0 ∷ 15 ∷ 8 ∷ [])
    ∷ (9 ∷ 0 ∷ 5 ∷ 7 ∷ 2 ∷ 4 ∷ 10 ∷ 15 ∷ 14 ∷ 1 ∷ 11 ∷ 12 ∷ 6 ∷ 8 ∷ 3 ∷ 13 ∷ [])
    ∷ (2 ∷ 12 ∷ 6 ∷ 10 ∷ 0 ∷ 11 ∷ 8 ∷ 3 ∷ 4 ∷ 13 ∷ 7 ∷ 5 ∷ 15 ∷ 14 ∷ 1 ∷ 9 ∷ [])
    ∷ (12 ∷ 5 ∷ 1 ∷ 15 ∷ 14 ∷ 13 ∷ 4 ∷ 10 ∷ 0 ∷ 7 ∷ 6 ∷ 3 ∷ 9 ∷ 2 ∷ 8 ∷ 11 ∷ [])
    ∷ (13 ∷ 11 ∷ 7 ∷ 14 ∷ 12 ∷ 1 ∷ 3 ∷ 9 ∷ 5 ∷ 0 ∷ 15 ∷ 4 ∷ 8 ∷ 6 ∷ 2 ∷ 10 ∷ [])
    ∷ (6 ∷ 15 ∷ 14 ∷ 9 ∷ 11 ∷ 3 ∷ 0 ∷ 8 ∷ 12 ∷ 2 ∷ 13 ∷ 7 ∷ 1 ∷ 4 ∷ 10 ∷ 5 ∷ [])
    ∷ (10 ∷ 2 ∷ 8 ∷ 4 ∷ 7 ∷ 6 ∷ 1 ∷ 5 ∷ 15 ∷ 11 ∷ 9 ∷ 14 ∷ 3 ∷ 12 ∷ 13 ∷ 0 ∷ [])
    ∷ []

-- the row of round i
abbrev pub row : ℕ → List ℕ
row i = get_or SIGMA (i % 10) []

module _ (f : Family) where
  open f use {w, rounds, R1, R2, R3, R4, IV}

  -- section 3.1: the mixing function on v[a], v[b], v[c], v[d]
  unfoldable pub G : List ℕ → ℕ → ℕ → ℕ → ℕ → ℕ → ℕ → List ℕ
  G v0 a b c d x y =
      let v1 : List ℕ = set v0 a ((v0 ! a + v0 ! b + x) % 2 ^ w) in
      let v2 : List ℕ = set v1 d (rotr w R1 (v1 ! d ⊕ v1 ! a)) in
      let v3 : List ℕ = set v2 c ((v2 ! c + v2 ! d) % 2 ^ w) in
      let v4 : List ℕ = set v3 b (rotr w R2 (v3 ! b ⊕ v3 ! c)) in
      let v5 : List ℕ = set v4 a ((v4 ! a + v4 ! b + y) % 2 ^ w) in
      let v6 : List ℕ = set v5 d (rotr w R3 (v5 ! d ⊕ v5 ! a)) in
      let v7 : List ℕ = set v6 c ((v6 ! c + v6 ! d) % 2 ^ w) in
      set v7 b (rotr w R4 (v7 ! b ⊕ v7 ! c))

  -- section 3.2: a round on the message words m, with the row s of SIGMA
  unfoldable pub round : List ℕ → List ℕ → List ℕ → List ℕ
  round s m v0 =
      let v1 : List ℕ = G v0 0 4 8 12 (m ! (s ! 0)) (m ! (s ! 1)) in
      let v2 : List ℕ = G v1 1 5 9 13 (m ! (s ! 2)) (m ! (s ! 3)) in
      let v3 : List ℕ = G v2 2 6 10 14 (m ! (s ! 4)) (m ! (s ! 5)) in
      let v4 : List ℕ = G v3 3 7 11 15 (m ! (s ! 6)) (m ! (s ! 7)) in
      let v5 : List ℕ = G v4 0 5 10 15 (m ! (s ! 8)) (m ! (s ! 9)) in
      let v6 : List ℕ = G v5 1 6 11 12 (m ! (s ! 10)) (m ! (s ! 11)) in
      let v7 : List ℕ = G v6 2 7 8 13 (m ! (s ! 12)) (m ! (s ! 13)) in
      G v7 3 4 9 14 (m ! (s ! 14)) (m ! (s ! 15))

  -- v after the rounds below n
  unfoldable pub rounds_to : ℕ → List ℕ → List ℕ → List ℕ
  rounds_to zero m v = v
  rounds_to (suc i) m v = round (row i) m (rounds_to i m v)

  -- a word of ones where a flag is up
  unfoldable pub ones : Bool → ℕ
  ones up = cond up (2 ^ w - 1) 0

  -- section 3.2: h is the state, m the sixteen words of a block, t the count of bytes, below 2 ^ (2 w); last: it is the last block;
  -- node: it is the last block of the last node of its layer (the paper, "Minimal padding and finalization flags"). Each xor has its constant second
  unfoldable pub F : List ℕ → List ℕ → ℕ → Bool → Bool → List ℕ
  F h m t last node =
      let v : List ℕ = rounds_to rounds m
      (h ++ (IV ! 0 ∷ IV ! 1 ∷ IV ! 2 ∷ IV ! 3
      ∷ t % 2 ^ w ⊕ IV ! 4 ∷ t / 2 ^ w ⊕ IV ! 5 ∷ ones last ⊕ IV ! 6 ∷ ones node ⊕ IV ! 7 ∷ [])) in
      map (λ i. h ! i ⊕ v ! i ⊕ v ! (i + 8)) (from 0 8)
