-- The machine of n leaves that are dealt blocks in turn is lawful, and its answer, each leaf's chain through its blocks, may be asked for
-- after any rows that may go. For any number of leaves. Assumes nothing.
use mathlib.Core.Path.{◌≡◌, refl, sym, ap, ◌∙◌}
use mathlib.Core.Bool.{Bool, true, false, ◌&&◌}
use mathlib.Core.List.{List, [], ◌∷◌, ◌++◌, map}
use Prim.Native.Nat.{ℕ, zero, suc, ◌+◌, ◌-◌, ◌*◌, ◌≤◌, ◌<◌}
use native.Mathlib.Nat.{add-zero, zero-add, add_comm, le_refl, le_trans, mul-le-mul_right, mul-pos, not-suc-le-zero}
use native.Mathlib.Numerals.{add-one}
use native.Mathlib.Omega.{arith}
use lib.Dec.{eqb}
use lib.ListN.{length, drop, set, get_or, length-drop}
use lib.Seq.{drop-drop, drop-append-le, length-take-le}
use Rattle.definitions.specs.Words.{from}
use Rattle.laws_blocks.specs.Chain.{spare, block_at, absorb, through}
use Rattle.laws_states.specs.Deal.{each, leaf_run, leaf_through, dealt, finished, parallel}
use Rattle.laws_blocks.proofs.Rows.{spare_is, spare_less}
use Rattle.laws_blocks.proofs.Chains.{through_whole, absorb_more, absorb_front, through_late}
use Rattle.laws_states.proofs.Buffers.{Lawful, Late}

-- members are changed one by one
pub each_each : {W : Type 0} (g h : ℕ → W → W) (i n : ℕ) (ws : List W) → each g i n (each h i n ws) ≡ each (λ j w. g j (h j w)) i n ws
unfolding each
each_each g h i zero ws = refl
each_each g h i (suc n) [] = refl
each_each g h i (suc n) (w ∷ ws) = rw (each_each g h (suc i) n ws)

pub each_same : {W : Type 0} (g h : ℕ → W → W) (i n : ℕ) (ws : List W) → ((j : ℕ) (w : W) → j < i + n → g j w ≡ h j w) → each g i n ws ≡ each h i n ws
unfolding each
each_same g h i zero ws e = refl
each_same g h i (suc n) [] e = refl
each_same g h i (suc n) (w ∷ ws) e = rw (e i w (omega arith), each_same g h (suc i) n ws (λ j v l. e j v (omega arith)))

each_none : {W : Type 0} (g : ℕ → W → W) (i n : ℕ) (ws : List W) → ((j : ℕ) (w : W) → g j w ≡ w) → each g i n ws ≡ ws
unfolding each
each_none g i zero ws e = refl
each_none g i (suc n) [] e = refl
each_none g i (suc n) (w ∷ ws) e = rw (e i w, each_none g (suc i) n ws e)

-- a turn of a loop over the members
pub each_step : {W : Type 0} (g : ℕ → W → W) (i k : ℕ) (ws : List W) (z : W) → k < length ws → set (each g i k ws) k (g (i + k) (get_or ws k z)) ≡ each g i (suc k) ws
unfolding each
each_step g i k [] z h = absurd (not-suc-le-zero h)
each_step g i zero (w ∷ ws) z h = rw add-zero
each_step g i (suc k) (w ∷ ws) z h =
    let e : i + suc k ≡ suc i + k = omega arith in
    rw (e, each_step g (suc i) k ws z (omega arith))

-- the same, as a loop's invariant goes on
pub each_turn : {W : Type 0} (g : ℕ → W → W) (ws : List W) (i : ℕ) {out : List W} {r : W} (z : W) → i < length ws → out ≡ each g 0 i ws → r ≡ g i (get_or ws i z)
    → set out i r ≡ each g 0 (i + 1) ws
each_turn g ws i z h e f =
    (λ j. set (e j) i (f j)) ∙ ap (λ (k : ℕ). set (each g 0 i ws) i (g k (get_or ws i z))) (sym (zero-add i)) ∙ each_step g 0 i ws z h ∙ ap (λ (k : ℕ). each g 0 k ws) (sym (add-one i))

-- each of the values of h
pub each_map : {W : Type 0} (g : ℕ → W → W) (h : ℕ → W) (i n : ℕ) → each g i n (map h (from i n)) ≡ map (λ j. g j (h j)) (from i n)
unfolding each
each_map g h i zero = refl
each_map g h i (suc n) = rw (each_map g h (suc i) n)

module _ {W : Type 0} (bb : ℕ) (F : W → List ℕ → ℕ → Bool → Bool → W) (block : 0 < bb) (n : ℕ) (leaves : 0 < n) where
  row : 0 < n * bb
  row = mul-pos leaves block

  -- of leaf i, where its bytes start
  after_rows : (i j : ℕ) (d : List ℕ) → drop (i * bb) (drop (n * bb * j) d) ≡ drop (n * bb * j) (drop (i * bb) d)
  after_rows i j d = rw (drop-drop (i * bb) (n * bb * j) d, drop-drop (n * bb * j) (i * bb) d, add_comm (i * bb) (n * bb * j))

  leaf_front : (i : ℕ) → i < n → (w : W) (t : ℕ) (a b : List ℕ) (k : ℕ) → n * bb * k ≤ length a
      → absorb bb F (n * bb) w t (drop (i * bb) (a ++ b)) k ≡ absorb bb F (n * bb) w t (drop (i * bb) a) k
  leaf_front i h w t a b zero g = unfold absorb in refl
  leaf_front i h w t a b (suc k) g =
      let in_row : suc i * bb ≤ n * bb = mul-le-mul_right bb h in
      let here : i * bb ≤ length a = omega arith in
      rw (drop-append-le (i * bb) a b here) (absorb_front bb F (n * bb) w t (drop (i * bb) a) b (suc k) (simp length-drop (omega arith)))

  -- a run of leaf i over whole rows that does not finalize: the last block too is one of those that went
  rows_through : (w : W) (t : ℕ) (d : List ℕ) (i k : ℕ) → i < n → 0 < k → length d ≡ n * bb * k
      → through bb F (n * bb) w t false false (drop (i * bb) d) ≡ absorb bb F (n * bb) w t (drop (i * bb) d) k
  unfolding block_at
  rows_through w t d i zero g h e = absurd (not-suc-le-zero h)
  rows_through w t d i (suc k) g h e =
      let in_row : suc i * bb ≤ n * bb = mul-le-mul_right bb g in
      let l : length (drop (i * bb) d) ≡ n * bb * suc k - i * bb = length-drop (i * bb) d ∙ ap (λ (m : ℕ). m - i * bb) e in
      through_whole bb F (n * bb) w t (drop (i * bb) d) k (spare_is (n * bb) 0 row (length (drop (i * bb) d)) k (omega arith) (omega arith))
      (length-take-le bb (drop (n * bb * k) (drop (i * bb) d)) (rw (length-drop (n * bb * k) (drop (i * bb) d)) (omega arith)))

  -- a turn of a loop over the leaves, which hands leaf i the input from its first block on
  pub leaf_turn : (ws : List W) (t : ℕ) (f : Bool) (d : List ℕ) (i : ℕ) {out : List W} {r : W} (z : W) {node : Bool} {rest : List ℕ} → length ws ≡ n → i < n → node ≡ eqb (suc i) n
      → rest ≡ drop (i * bb) d → out ≡ each (leaf_through bb F n t f d) 0 i ws → r ≡ through bb F (n * bb) (get_or ws i z) t f (f && node) rest
      → set out i r ≡ each (leaf_through bb F n t f d) 0 (i + 1) ws
  leaf_turn ws t f d i z all h node-is rest-is e g =
      each_turn (leaf_through bb F n t f d) ws i z (omega arith) e (g ∙ (λ j. through bb F (n * bb) (get_or ws i z) t f (f && node-is j) (rest-is j)))

  -- where it does not finalize, over whole rows, these rows were dealt
  pub rows_dealt : (ws : List W) (t : ℕ) (d : List ℕ) (k : ℕ) → 0 < k → length d ≡ n * bb * k → each (leaf_through bb F n t false d) 0 n ws ≡ dealt bb F n ws t d k
  unfolding dealt
  rows_dealt ws t d k some whole =
      each_same (leaf_through bb F n t false d) (leaf_run bb F n t d k) 0 n ws (λ i w h. rows_through w t d i k (omega arith) some whole)

  dealt_none : (ws : List W) (t : ℕ) (d : List ℕ) → dealt bb F n ws t d 0 ≡ ws
  unfolding dealt
  dealt_none ws t d = each_none (λ i w. absorb bb F (n * bb) w t (drop (i * bb) d) 0) 0 n ws (λ j w. unfold absorb in refl)

  -- j rows and then k more
  dealt_more : (ws : List W) (t : ℕ) (d : List ℕ) (j k : ℕ)
      → dealt bb F n (dealt bb F n ws t d j) (t + bb * j) (drop (n * bb * j) d) k ≡ dealt bb F n ws t d (j + k)
  unfolding dealt
  dealt_more ws t d j k =
      each_each (λ i w. absorb bb F (n * bb) w (t + bb * j) (drop (i * bb) (drop (n * bb * j) d)) k) (λ i w. absorb bb F (n * bb) w t (drop (i * bb) d) j) 0 n ws
      ∙ each_same (λ i w. absorb bb F (n * bb) (absorb bb F (n * bb) w t (drop (i * bb) d) j) (t + bb * j) (drop (i * bb) (drop (n * bb * j) d)) k)
      (λ i w. absorb bb F (n * bb) w t (drop (i * bb) d) (j + k)) 0 n ws
      (λ i w h. rw (after_rows i j d) (absorb_more bb F (n * bb) w t (drop (i * bb) d) j k))

  dealt_front : (ws : List W) (t : ℕ) (a b : List ℕ) (k : ℕ) → n * bb * k ≤ length a → dealt bb F n ws t (a ++ b) k ≡ dealt bb F n ws t a k
  unfolding dealt
  dealt_front ws t a b k h =
      each_same (λ i w. absorb bb F (n * bb) w t (drop (i * bb) (a ++ b)) k) (λ i w. absorb bb F (n * bb) w t (drop (i * bb) a) k) 0 n ws
      (λ i w g. leaf_front i (omega arith) w t a b k h)

  pub parallel_lawful : Lawful (parallel bb F n)
  parallel_lawful = record {
    some = row;
    wide = let h : (n - 1) * bb ≤ n * bb = mul-le-mul_right bb (omega arith) in omega arith;
    run_none = dealt_none;
    run_more = dealt_more;
    run_front = dealt_front;
  }

  finished_late : (ws : List W) (t : ℕ) (d : List ℕ) (k : ℕ) → k ≤ spare (n * bb) ((n - 1) * bb) (length d)
      → finished bb F n (dealt bb F n ws t d k) (t + bb * k) (drop (n * bb * k) d) ≡ finished bb F n ws t d
  unfolding finished dealt
  finished_late ws t d k h =
      each_each (λ i w. through bb F (n * bb) w (t + bb * k) true (eqb (suc i) n) (drop (i * bb) (drop (n * bb * k) d))) (λ i w. absorb bb F (n * bb) w t (drop (i * bb) d) k) 0 n ws
      ∙ each_same (λ i w. through bb F (n * bb) (absorb bb F (n * bb) w t (drop (i * bb) d) k) (t + bb * k) true (eqb (suc i) n) (drop (i * bb) (drop (n * bb * k) d)))
      (λ i w. through bb F (n * bb) w t true (eqb (suc i) n) (drop (i * bb) d)) 0 n ws
      (λ i w g. rw (after_rows i k d) (through_late bb F (n * bb) row w t true (eqb (suc i) n) (drop (i * bb) d) k (may i (omega arith))))
    where
      -- where each leaf has a byte left, so has leaf i
      may : (i : ℕ) → i < n → k ≤ spare (n * bb) 0 (length (drop (i * bb) d))
      may i g =
          let in_row : i * bb ≤ (n - 1) * bb = mul-le-mul_right bb (omega arith) in
          rw (length-drop (i * bb) d) (le_trans h (spare_less (n * bb) ((n - 1) * bb) row (length d) (length d) 0 (i * bb) (le_refl (length d)) (omega arith)))

  pub parallel_late : Late (parallel bb F n) (finished bb F n)
  parallel_late = record { late = finished_late }
