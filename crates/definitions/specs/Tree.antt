-- BLAKE2bp and BLAKE2sp (the paper, "Parallel hashing: BLAKE2sp and BLAKE2bp"): n leaves, and a root over them.
-- Assumes nothing.
use Rattle.std.specs.Prelude.{true, ℕ, suc, ◌+◌, ◌*◌, ◌/◌, eqb, length, take}
use mathlib.Core.List.{List, [], flat_map}
use Rattle.definitions.specs.Words.{from, part}
use Rattle.definitions.specs.Family.{Family, BLAKE2b, BLAKE2s}
use Rattle.definitions.specs.Hash.{Parameters, keyed, untruncated}

-- blocks of bb bytes are dealt to n leaves in turn: leaf i has the blocks i, i + n, i + 2 n and so on of the message
unfoldable pub share : ℕ → ℕ → List ℕ → ℕ → List ℕ
share bb n m i = flat_map (λ k. part bb m (i + n * k)) (from 0 (suc (length m / (bb * n))))

module _ (f : Family) (n : ℕ) where
  open f use {ww, bb}

  -- the parameters of a node, for a digest of d bytes and a key of k. The paper does not say which lengths the nodes below the root
  -- carry: as in the crate (and the designers' own code) all nodes carry the asked ones, and the inner length is a whole state's
  unfoldable pub parameters : ℕ → ℕ → ℕ → ℕ → Parameters
  parameters d k offset depth = record {
    digest_length = d;
    key_length = k;
    fanout = n;
    depth = 2;
    leaf_length = 0;
    node_offset = offset;
    node_depth = depth;
    inner_length = 8 * ww;
    salt = [];
    personal = [];
  }

  -- what leaf i hashes: the key block where there is a key, and its share
  unfoldable pub leaf_data : List ℕ → List ℕ → ℕ → List ℕ
  leaf_data key m i = keyed f key (share bb n m i)

  unfoldable pub leaf : ℕ → List ℕ → List ℕ → ℕ → List ℕ
  leaf d key m i = untruncated f (parameters d (length key) i 0) (eqb (suc i) n) (leaf_data key m i)

  -- the root hashes the leaves' whole states, and no key block: here too the paper is silent and the crate decides
  unfoldable pub parallel : ℕ → List ℕ → List ℕ → List ℕ
  parallel d key m = take d (untruncated f (parameters d (length key) 0 1) true (flat_map (leaf d key m) (from 0 n)))

-- a digest of d bytes
abbrev pub BLAKE2bp : ℕ → List ℕ → List ℕ → List ℕ
BLAKE2bp = parallel BLAKE2b 4

abbrev pub BLAKE2sp : ℕ → List ℕ → List ℕ → List ℕ
BLAKE2sp = parallel BLAKE2s 8
