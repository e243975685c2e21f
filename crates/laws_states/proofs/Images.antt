-- The same chains and leaves over another form of the words, as a struct that holds them: g reads the words off it.
-- Assumes nothing.
use mathlib.Core.Path.{◌≡◌, refl, ◌∙◌}
use mathlib.Core.Bool.{Bool, true, false}
use mathlib.Core.List.{List, [], ◌∷◌, map}
use Prim.Native.Nat.{ℕ, zero, suc, ◌+◌, ◌*◌}
use lib.Dec.{eqb}
use lib.ListN.{length, drop}
use Rattle.laws_blocks.specs.Chain.{spare, block_at, absorb, ended, through}
use Rattle.laws_states.specs.Deal.{each, finished}

each_image : {W U : Type 0} (g : W → U) (f : ℕ → W → W) (h : ℕ → U → U) → ((i : ℕ) (w : W) → g (f i w) ≡ h i (g w))
    → (i n : ℕ) (ws : List W) → map g (each f i n ws) ≡ each h i n (map g ws)
unfolding each
each_image g f h e i zero ws = refl
each_image g f h e i (suc n) [] = refl
each_image g f h e i (suc n) (w ∷ ws) = rw (e i w, each_image g f h e (suc i) n ws)

module _ {W U : Type 0} (g : W → U) (bb : ℕ) (F : W → List ℕ → ℕ → Bool → Bool → W) (G : U → List ℕ → ℕ → Bool → Bool → U)
    (same : (w : W) (b : List ℕ) (t : ℕ) (last node : Bool) → g (F w b t last node) ≡ G (g w) b t last node) where
  pub absorb_image : (st : ℕ) (w : W) (t : ℕ) (d : List ℕ) (k : ℕ) → g (absorb bb F st w t d k) ≡ absorb bb G st (g w) t d k
  unfolding absorb
  absorb_image st w t d zero = refl
  absorb_image st w t d (suc k) =
      rw (same (absorb bb F st w t d k) (block_at bb st d k) (t + bb * suc k) false false, absorb_image st w t d k)

  pub through_image : (st : ℕ) (w : W) (t : ℕ) (last node : Bool) (d : List ℕ) → g (through bb F st w t last node d) ≡ through bb G st (g w) t last node d
  unfolding through ended
  through_image st w t last node d =
      let q = spare st 0 (length d) in
      same (absorb bb F st w t d q) (block_at bb st d q) (t + bb * q + length (block_at bb st d q)) last node ∙ rw (absorb_image st w t d q)

  pub finished_image : (n : ℕ) (ws : List W) (t : ℕ) (d : List ℕ) → map g (finished bb F n ws t d) ≡ finished bb G n (map g ws) t d
  unfolding finished
  finished_image n ws t d =
      each_image g (λ i w. through bb F (n * bb) w t true (eqb (suc i) n) (drop (i * bb) d)) (λ i v. through bb G (n * bb) v t true (eqb (suc i) n) (drop (i * bb) d))
      (λ i w. through_image (n * bb) w t true (eqb (suc i) n) (drop (i * bb) d)) 0 n ws
