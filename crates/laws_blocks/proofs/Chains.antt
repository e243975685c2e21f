-- The laws of a chain: its turns, its last block, and that its blocks may be taken in any cuts.
-- Assumes nothing.
use mathlib.Core.Path.{◌≡◌, refl, sym, ap, ◌∙◌}
use mathlib.Core.Bool.{Bool, false}
use mathlib.Core.List.{List, ◌++◌}
use Prim.Native.Nat.{ℕ, zero, suc, ◌+◌, ◌*◌, ◌≤◌, ◌<◌}
use native.Mathlib.Nat.{add-zero, add-suc}
use native.Mathlib.Omega.{arith}
use lib.ListN.{length, drop, length-drop}
use lib.Seq.{drop-drop, drop-append-le, take-append-le}
use Rattle.laws_blocks.specs.Chain.{spare, block_at, absorb, ended, through}
use Rattle.laws_blocks.proofs.Rows.{spare_late}

module _ {W : Type 0} (bb : ℕ) (F : W → List ℕ → ℕ → Bool → Bool → W) (st : ℕ) where
  -- a turn of a loop over the blocks
  pub absorb_step : (w : W) (t : ℕ) (d : List ℕ) (k : ℕ) {v r : W} {b : List ℕ} {c : ℕ} → v ≡ absorb bb F st w t d k → b ≡ block_at bb st d k
      → c ≡ t + bb * suc k → r ≡ F v b c false false → r ≡ absorb bb F st w t d (suc k)
  unfolding absorb
  absorb_step w t d k p e g q = q ∙ (λ i. F (p i) (e i) (g i) false false)

  -- the last block, after the others
  pub through_step : (w : W) (t : ℕ) (last node : Bool) (d : List ℕ) (k : ℕ) {v r : W} {b : List ℕ} {c : ℕ} → spare st 0 (length d) ≡ k
      → v ≡ absorb bb F st w t d k → b ≡ block_at bb st d k → c ≡ t + bb * k + length (block_at bb st d k) → r ≡ F v b c last node
      → r ≡ through bb F st w t last node d
  unfolding through ended
  through_step w t last node d k z p e g q = q ∙ (λ i. F (p i) (e i) (g i) last node) ∙ ap (ended bb F st w t last node d) (sym z)

  -- a run that does not finalize: the last block too is one of those that went
  pub through_whole : (w : W) (t : ℕ) (d : List ℕ) (k : ℕ) → spare st 0 (length d) ≡ k → length (block_at bb st d k) ≡ bb
      → through bb F st w t false false d ≡ absorb bb F st w t d (suc k)
  unfolding through ended absorb
  through_whole w t d k z e = let g : t + bb * k + bb ≡ t + bb * suc k = omega arith in rw (z, e, g)

  -- j blocks and then k more
  pub absorb_more : (w : W) (t : ℕ) (d : List ℕ) (j k : ℕ)
      → absorb bb F st (absorb bb F st w t d j) (t + bb * j) (drop (st * j) d) k ≡ absorb bb F st w t d (j + k)
  unfolding absorb block_at
  absorb_more w t d j zero = rw add-zero
  absorb_more w t d j (suc k) =
      let e : t + bb * j + bb * suc k ≡ t + bb * suc (j + k) = omega arith in
      let f : st * j + st * k ≡ st * (j + k) = omega arith in
      rw (add-suc, drop-drop, absorb_more w t d j k, e, f)

  -- what follows the blocks does not matter: of the last row only the block has to be there
  pub absorb_front : (w : W) (t : ℕ) (a b : List ℕ) (k : ℕ) → st * k + bb ≤ length a + st → absorb bb F st w t (a ++ b) k ≡ absorb bb F st w t a k
  unfolding absorb block_at
  absorb_front w t a b zero h = refl
  absorb_front w t a b (suc k) h =
      let here : st * k + bb ≤ length a = omega arith in
      let left : bb ≤ length (drop (st * k) a) = simp length-drop (omega arith) in
      rw (absorb_front w t a b k (omega arith), drop-append-le (st * k) a b (omega arith), take-append-le bb (drop (st * k) a) b left)

  ended_more : (w : W) (t : ℕ) (last node : Bool) (d : List ℕ) (j k : ℕ)
      → ended bb F st (absorb bb F st w t d j) (t + bb * j) last node (drop (st * j) d) k ≡ ended bb F st w t last node d (j + k)
  unfolding ended block_at
  ended_more w t last node d j k =
      let e : t + bb * j + bb * k ≡ t + bb * (j + k) = omega arith in
      let f : st * j + st * k ≡ st * (j + k) = omega arith in
      rw (drop-drop, absorb_more w t d j k, e, f)

  -- k blocks and then the rest, where the k took no last block
  pub through_late : 0 < st → (w : W) (t : ℕ) (last node : Bool) (d : List ℕ) (k : ℕ) → k ≤ spare st 0 (length d)
      → through bb F st (absorb bb F st w t d k) (t + bb * k) last node (drop (st * k) d) ≡ through bb F st w t last node d
  unfolding through
  through_late some w t last node d k h =
      rw (ended_more w t last node d k (spare st 0 (length (drop (st * k) d))), length-drop (st * k) d, spare_late st 0 some (length d) k h)
