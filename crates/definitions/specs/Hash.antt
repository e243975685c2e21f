-- The hash of a message (RFC 7693, section 3.3), from the parameter block (section 2.5; the paper, "Parameter block") on.
-- Assumes nothing.
use Rattle.std.specs.Prelude.{Bool, true, false, ℕ, ◌+◌, ◌-◌, ◌*◌, ◌/◌, length, take, replicate}
use mathlib.Core.List.{List, [], ◌∷◌, ◌++◌, map, flat_map, foldl}
use Rattle.definitions.specs.Words.{◌⊕◌, ◌!◌, from, word, bytes, part, pad}
use Rattle.definitions.specs.Family.{Family}
use Rattle.definitions.specs.Compress.{F}

pub record Parameters : Type 0 where
  pub digest_length : ℕ
  pub key_length : ℕ
  pub fanout : ℕ
  pub depth : ℕ
  pub leaf_length : ℕ
  pub node_offset : ℕ
  pub node_depth : ℕ
  pub inner_length : ℕ
  pub salt : List ℕ
  pub personal : List ℕ

-- a digest of n bytes of a message that is hashed as one leaf, with a key of k bytes
abbrev pub sequential : ℕ → ℕ → Parameters
sequential n k = record {
  digest_length = n;
  key_length = k;
  fanout = 1;
  depth = 1;
  leaf_length = 0;
  node_offset = 0;
  node_depth = 0;
  inner_length = 0;
  salt = [];
  personal = [];
}

-- a call of F: the bytes of the block, the count and the two flags
pub record Call : Type 0 where
  pub block : List ℕ
  pub count : ℕ
  pub last : Bool
  pub node : Bool

module _ (f : Family) where
  open f use {ww, bb, IV, offset_bytes, reserved, salt_bytes}

  -- section 2.5 and the paper's tables; numbers are little-endian
  unfoldable pub parameter_block : Parameters → List ℕ
  parameter_block p =
      (p.digest_length ∷ p.key_length ∷ p.fanout ∷ p.depth ∷ [])
      ++ bytes 4 p.leaf_length
      ++ bytes offset_bytes p.node_offset
      ++ (p.node_depth ∷ p.inner_length ∷ [])
      ++ replicate reserved 0
      ++ pad salt_bytes p.salt
      ++ pad salt_bytes p.personal

  -- the first n words that bytes stand for
  unfoldable pub words : ℕ → List ℕ → List ℕ
  words n d = map (λ i. word (part ww d i)) (from 0 n)

  -- the state before the first block
  unfoldable pub start : Parameters → List ℕ
  start p = let x : List ℕ = words 8 (parameter_block p) in map (λ i. x ! i ⊕ IV ! i) (from 0 8)

  -- section 3.3: what is hashed: the message, behind a block of the key where there is one
  unfoldable pub keyed : List ℕ → List ℕ → List ℕ
  keyed [] m = m
  keyed (k ∷ key) m = pad bb (k ∷ key) ++ m

  -- section 3.3: the calls of F for the bytes d: full blocks, then the last; no bytes are one block of padding. A count has no padding in it
  unfoldable pub calls : Bool → List ℕ → List Call
  calls node d =
      let n : ℕ = (length d - 1) / bb in
      map (λ i. record { block = part bb d i; count = (i + 1) * bb; last = false; node = false }) (from 0 n)
      ++ (record { block = part bb d n; count = length d; last = true; node = node } ∷ [])

  unfoldable pub compress : List ℕ → Call → List ℕ
  compress h c = F f h (words 16 (pad bb c.block)) c.count c.last c.node

  -- the bytes of a state, little-endian
  unfoldable pub state_bytes : List ℕ → List ℕ
  state_bytes h = flat_map (bytes ww) h

  -- the last state's bytes; node: this is the last node of its layer
  unfoldable pub untruncated : Parameters → Bool → List ℕ → List ℕ
  untruncated p node d = state_bytes (foldl compress (start p) (calls node d))

  unfoldable pub hash : Parameters → Bool → List ℕ → List ℕ → List ℕ
  hash p node key m = take p.digest_length (untruncated p node (keyed key m))

  -- section 3.3's BLAKE2: n bytes of digest, no tree
  abbrev pub blake2 : ℕ → List ℕ → List ℕ → List ℕ
  blake2 n key m = hash (sequential n (length key)) false key m
