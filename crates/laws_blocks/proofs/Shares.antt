-- A leaf's chain over the message, a row at a time, is the chain over the leaf's share of it, for any number of leaves.
-- Assumes nothing.
use mathlib.Core.Path.{◌≡◌, refl, sym, subst}
use Prim.Native.Nat.{ℕ, zero, suc, ◌+◌, ◌-◌, ◌*◌, ◌/◌, ◌≤◌, ◌<◌, min}
use native.Mathlib.Nat.{zero-add, le_refl, mul_comm, mul-le-mul_right, le-div_iff_mul-le, mul-pos}
use native.Mathlib.Omega.{arith}
use mathlib.Core.Bool.{Bool, true, false}
use mathlib.Core.List.{List, [], ◌∷◌, ◌++◌, append-nil, append_assoc, flat_map}
use lib.ListN.{length, take, drop, length-take, length-drop, length-append, drop_of_length-le}
use lib.Seq.{drop-drop, take-nil, drop-nil, length-take-le, drop_at, take_at, take-take}
use lib.Dec.{leb}
use borrow.Author.Tests.{leb-true, leb-false}
use Rattle.definitions.specs.Words.{from, part}
use Rattle.definitions.specs.Tree.{share}
use Rattle.laws_blocks.specs.Chain.{spare, block_at, absorb, ended, through}
use Rattle.laws_blocks.proofs.Rows.{spare_fits, spare_left, spare_none, spare_is}
use Rattle.laws_blocks.proofs.Chains.{absorb_step}

-- the first bb bytes of each of k rows of st bytes
unfoldable picked : ℕ → ℕ → List ℕ → ℕ → List ℕ
picked bb st d zero = []
picked bb st d (suc k) = take bb d ++ picked bb st (drop st d) k

module _ (bb st : ℕ) where
  picked_nil : (k : ℕ) → picked bb st [] k ≡ []
  unfolding picked
  picked_nil zero = refl
  picked_nil (suc k) = rw (take-nil, drop-nil) (picked_nil k)

  -- the first block
  picked_first : bb ≤ st → (d : List ℕ) (k : ℕ) → take bb (picked bb st d (suc k)) ≡ take bb d
  unfolding picked
  picked_first h d k = split (leb bb (length d)) refl
    where
      split : (b : Bool) → leb bb (length d) ≡ b → take bb (take bb d ++ picked bb st (drop st d) k) ≡ take bb d
      split true e = take_at (take bb d) (picked bb st (drop st d) k) bb (length-take-le bb d (leb-true bb (length d) e))
      split false e =
          let short : length d ≤ st = omega (arith, leb-false bb (length d) e) in
          rw (drop_of_length-le d {i = st} short, picked_nil k, append-nil, take-take bb bb d (le_refl bb))

  -- the rows of the front, and those that follow
  picked_more : (d : List ℕ) (j k : ℕ) → picked bb st d (j + k) ≡ picked bb st d j ++ picked bb st (drop (st * j) d) k
  unfolding picked
  picked_more d zero k = let e : st * 0 ≡ 0 = omega arith in rw (zero-add, e)
  picked_more d (suc j) k =
      let e : suc j + k ≡ suc (j + k) = omega arith in
      let f : st + st * j ≡ st * suc j = omega arith in
      rw (e, picked_more (drop st d) j k, drop-drop, f, append_assoc)

  -- j whole blocks
  length_picked : (d : List ℕ) (j : ℕ) → st * j + bb ≤ length d + st → length (picked bb st d j) ≡ bb * j
  unfolding picked
  length_picked d zero h = omega arith
  length_picked d (suc j) h =
      let here : length (take bb d) ≡ bb = length-take-le bb d (omega arith) in
      let rest : length (picked bb st (drop st d) j) ≡ bb * j = length_picked (drop st d) j (simp length-drop (omega arith)) in
      simp length-append (omega arith)

  -- rows that are there go as blocks
  drop_picked : (d : List ℕ) (j k : ℕ) → st * j + bb ≤ length d + st → drop (bb * j) (picked bb st d (j + k)) ≡ picked bb st (drop (st * j) d) k
  drop_picked d j k h = rw picked_more (drop_at (picked bb st d j) (picked bb st (drop (st * j) d) k) (bb * j) (length_picked d j h))

  -- a row that is the last
  picked_last : (d : List ℕ) (k : ℕ) → length d ≤ st → picked bb st d (suc k) ≡ take bb d
  unfolding picked
  picked_last d k h = rw (drop_of_length-le d {i = st} h, picked_nil k, append-nil)

-- a chain with the stride st is the chain of the blocks that it meets
module _ {W : Type 0} (bb : ℕ) (F : W → List ℕ → ℕ → Bool → Bool → W) (st : ℕ) (wide : bb ≤ st) where
  block_picked : (d : List ℕ) (j k : ℕ) → st * j + bb ≤ length d + st → block_at bb bb (picked bb st d (j + suc k)) j ≡ block_at bb st d j
  unfolding block_at
  block_picked d j k h = rw (drop_picked bb st d j (suc k) h) (picked_first bb st wide (drop (st * j) d) k)

  absorb_picked : (w : W) (t : ℕ) (d : List ℕ) (j k : ℕ) → st * j + bb ≤ length d + st → absorb bb F bb w t (picked bb st d (j + k)) j ≡ absorb bb F st w t d j
  unfolding absorb
  absorb_picked w t d zero k h = refl
  absorb_picked w t d (suc j) k h =
      let e : suc j + k ≡ j + suc k = omega arith in
      let P : ℕ → Type 0 = λ n. absorb bb F bb w t (picked bb st d n) (suc j) ≡ absorb bb F st w t d (suc j) in
      subst P (sym e) (absorb_step bb F st w t d j (absorb_picked w t d j (suc k) (omega arith)) (block_picked d j k (omega arith)) refl refl)

  module _ (block : 0 < bb) where
    row : 0 < st
    row = omega arith

    at_last : (d : List ℕ) → st * spare st 0 (length d) + bb ≤ length d + st
    at_last d = omega (arith, spare_fits st 0 row (length d) (spare st 0 (length d)) (le_refl (spare st 0 (length d))))

    -- as many blocks as rows
    spare_picked : (d : List ℕ) (k : ℕ) → spare bb 0 (length (picked bb st d (spare st 0 (length d) + suc k))) ≡ spare st 0 (length d)
    spare_picked [] k =
        let z : spare st 0 0 ≡ 0 = spare_none st 0 row 0 (omega arith) in
        rw (picked_nil bb st (spare st 0 0 + suc k), z) (spare_none bb 0 block 0 (omega arith))
    spare_picked (x ∷ s) k =
        let d = x ∷ s in
        let q = spare st 0 (length d) in
        let fits = spare_fits st 0 row (length d) q (le_refl q) in
        let left = spare_left st 0 row (length d) in
        let e : picked bb st d (q + suc k) ≡ picked bb st d q ++ take bb (drop (st * q) d) =
        rw (picked_more bb st d q (suc k), picked_last bb st (drop (st * q) d) k (simp length-drop (omega arith))) in
        let l : length (picked bb st d q) ≡ bb * q = length_picked bb st d q (at_last d) in
        let r : length (take bb (drop (st * q) d)) ≡ min bb (length d - st * q) = simp (length-take, length-drop) in
        rw (e, length-append, l) (spare_is bb 0 block (bb * q + length (take bb (drop (st * q) d))) q (omega arith) (omega arith))

    through_picked : (w : W) (t : ℕ) (last node : Bool) (d : List ℕ) (k : ℕ)
        → through bb F bb w t last node (picked bb st d (spare st 0 (length d) + suc k)) ≡ through bb F st w t last node d
    unfolding through ended
    through_picked w t last node d k =
        let q = spare st 0 (length d) in
        rw (spare_picked d k, absorb_picked w t d q (suc k) (at_last d), block_picked d q k (at_last d))

-- leaf i's share is the first block of each row, from its first block on
module _ (bb n : ℕ) where
  share_from : (m : List ℕ) (i j k : ℕ) → flat_map (λ q. part bb m (i + n * q)) (from j k) ≡ picked bb (n * bb) (drop ((i + n * j) * bb) m) k
  unfolding flat_map picked
  share_from m i j zero = refl
  share_from m i j (suc k) =
      let e : (i + n * j) * bb + n * bb ≡ (i + n * suc j) * bb = omega arith in
      rw (share_from m i (suc j) k, drop-drop, e)

  share_picked : (m : List ℕ) (i : ℕ) → share bb n m i ≡ picked bb (n * bb) (drop (i * bb) m) (suc (length m / (n * bb)))
  unfolding share
  share_picked m i =
      let e : (i + n * 0) * bb ≡ i * bb = omega arith in
      rw (share_from m i 0 (suc (length m / (bb * n))), e, mul_comm bb n)

  module _ (block : 0 < bb) (leaves : 0 < n) where
    row_wide : bb ≤ n * bb
    row_wide = let h : 1 * bb ≤ n * bb = mul-le-mul_right bb leaves in omega arith

    row_some : 0 < n * bb
    row_some = mul-pos leaves block

    -- THE law of dealing: the chain of leaf i over the message is the chain over its share
    module _ {W : Type 0} (F : W → List ℕ → ℕ → Bool → Bool → W) where
      pub through_share : (w : W) (t : ℕ) (last node : Bool) (m : List ℕ) (i : ℕ)
          → through bb F bb w t last node (share bb n m i) ≡ through bb F (n * bb) w t last node (drop (i * bb) m)
      through_share w t last node m i =
          let st = n * bb in
          let d = drop (i * bb) m in
          let q = spare st 0 (length d) in
          let l : length d ≡ length m - i * bb = length-drop (i * bb) m in
          let fits = spare_fits st 0 row_some (length d) q (le_refl q) in
          let most : q ≤ length m / st = (le-div_iff_mul-le row_some).1 (rw (mul_comm q st) (omega arith)) in
          let e : suc (length m / st) ≡ q + suc (length m / st - q) = omega arith in
          rw (share_picked m i, e) (through_picked bb F st row_wide block w t last node d (length m / st - q))
