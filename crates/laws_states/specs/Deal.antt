-- Blocks dealt to n leaves in turn, as BLAKE2bp and BLAKE2sp do: the machine of n leaves, over any compression F.
-- Assumes nothing.
use Rattle.std.specs.Prelude.{Bool, true, ◌&&◌, List, [], ◌∷◌, ℕ, zero, suc, ◌-◌, ◌*◌, eqb, drop}
use Rattle.laws_blocks.specs.Chain.{absorb, through}
use Rattle.laws_states.specs.Buffer.{Machine}

-- g, at its number, of each of n members, the first having the number i
unfoldable pub each : {W : Type 0} → (ℕ → W → W) → ℕ → ℕ → List W → List W
each g i zero ws = ws
each g i (suc n) [] = []
each g i (suc n) (w ∷ ws) = g i w ∷ each g (suc i) n ws

module _ {W : Type 0} (bb : ℕ) (F : W → List ℕ → ℕ → Bool → Bool → W) (n : ℕ) where
  -- leaf i, from the state w at count t on, over its blocks of k rows of d
  abbrev pub leaf_run : ℕ → List ℕ → ℕ → ℕ → W → W
  leaf_run t d k i w = absorb bb F (n * bb) w t (drop (i * bb) d) k

  -- and over all its blocks of d, finalizing where f says so: the last leaf is then the last node
  abbrev pub leaf_through : ℕ → Bool → List ℕ → ℕ → W → W
  leaf_through t f d i w = through bb F (n * bb) w t f (f && eqb (suc i) n) (drop (i * bb) d)

  -- k rows of n blocks, a block to each leaf
  unfoldable pub dealt : List W → ℕ → List ℕ → ℕ → List W
  dealt ws t d k = each (leaf_run t d k) 0 n ws

  -- the leaves once d is all that comes
  unfoldable pub finished : List W → ℕ → List ℕ → List W
  finished ws t d = each (leaf_through t true d) 0 n ws

  -- n leaves: a row goes where each leaf has a byte left, and the buffer has room for two rows
  abbrev pub parallel : Machine (List W)
  parallel = record { row = n * bb; step = bb; need = (n - 1) * bb; room = 2 * (n * bb); run = dealt }
