-- The chains of specs/Blocks.antt are the definitions' folds over the calls of F: at the serial stride of the message, at the stride
-- of n leaves of a leaf's share. For any family. Assumes nothing.
use mathlib.Core.Path.{◌≡◌, refl, ap, ◌∙◌}
use mathlib.Core.Bool.{Bool, true, false}
use mathlib.Core.List.{List, [], ◌∷◌, map, foldl, foldl-append}
use Prim.Native.Nat.{ℕ, zero, suc, ◌+◌, ◌-◌, ◌*◌, ◌/◌, ◌%◌, ◌^◌, ◌≤◌, ◌<◌}
use native.Mathlib.Nat.{add-zero, zero-add, add_comm, mul_comm, le_refl, div-add-mod'}
use native.Mathlib.Omega.{arith}
use lib.ListN.{length, take, drop, length-drop, length-take}
use Rattle.definitions.specs.Words.{from, part, pad}
use Rattle.definitions.specs.Family.{Family}
use Rattle.definitions.specs.Compress.{F}
use Rattle.definitions.specs.Hash.{Parameters, Call, words, start, calls, compress, state_bytes, untruncated}
use Rattle.definitions.specs.Tree.{share}
use Rattle.laws_blocks.specs.Chain.{spare, block_at, absorb, ended, through}
use Rattle.laws_blocks.specs.Blocks.{on_bytes, through_blocks}
use Rattle.laws_blocks.proofs.Rows.{spare_fits, spare_left}
use Rattle.laws_blocks.proofs.Shares.{through_share}

-- a fold over numbers ends with the last of them
fold_last : {A C : Type 0} (g : A → C → A) (c : ℕ → C) (h : A) (i k : ℕ) → foldl g h (map c (from i (suc k))) ≡ g (foldl g h (map c (from i k))) (c (i + k))
fold_last g c h i zero = rw add-zero
fold_last g c h i (suc k) = let e : suc i + k ≡ i + suc k = omega arith in rw (← e) (fold_last g c (g h (c i)) (suc i) k)

-- a compression of code, on a block that was padded and at a count in two words
pub compressed_on_bytes : (f : Family) (h b : List ℕ) {t u lo hi : ℕ} {x r : List ℕ} {l m last node : Bool} → lo ≡ t % 2 ^ f.w → hi ≡ t / 2 ^ f.w → t ≡ u → x ≡ pad f.bb b
    → l ≡ last → m ≡ node → r ≡ F f h (words f 16 x) (lo + hi * 2 ^ f.w) l m → r ≡ on_bytes f h b u last node
unfolding on_bytes compress
compressed_on_bytes f h b {t} {u} {lo} {hi} p q g e k j z =
    let s : lo + hi * 2 ^ f.w ≡ u = rw (p, q) (add_comm (t % 2 ^ f.w) (t / 2 ^ f.w * 2 ^ f.w) ∙ div-add-mod' t (2 ^ f.w) ∙ g) in
    z ∙ (λ i. F f h (words f 16 (e i)) (s i) (k i) (j i))

module _ (f : Family) (some : 0 < f.bb) where
  open f use {bb}

  full : List ℕ → ℕ → Call
  full d i = record { block = part bb d i; count = (i + 1) * bb; last = false; node = false }

  call_full : (v d : List ℕ) (i : ℕ) → compress f v (full d i) ≡ on_bytes f v (block_at bb bb d i) (0 + bb * suc i) false false
  unfolding on_bytes full block_at
  call_full v d i = let e : (i + 1) * bb ≡ 0 + bb * suc i = omega arith in rw (mul_comm i bb, e)

  full_calls : (h d : List ℕ) (k : ℕ) → foldl (compress f) h (map (full d) (from 0 k)) ≡ absorb bb (on_bytes f) bb h 0 d k
  unfolding absorb
  full_calls h d zero = refl
  full_calls h d (suc k) =
      fold_last (compress f) (full d) h 0 k ∙ rw (zero-add, full_calls h d k) (call_full (absorb bb (on_bytes f) bb h 0 d k) d k)

  call_last : (v d : List ℕ) (node : Bool) (q : ℕ) → bb * q ≤ length d → length d - bb * q ≤ bb
      → compress f v (record { block = part bb d q; count = length d; last = true; node = node })
      ≡ on_bytes f v (block_at bb bb d q) (0 + bb * q + length (block_at bb bb d q)) true node
  unfolding on_bytes block_at
  call_last v d node q h g =
      let r : length (take bb (drop (bb * q) d)) ≡ length d - bb * q = simp (length-take, length-drop) (omega arith) in
      let e : 0 + bb * q + (length d - bb * q) ≡ length d = omega arith in
      rw (mul_comm q bb, r, e)

  -- the whole chain at the serial stride is the RFC's list of calls
  pub calls_through : (h : List ℕ) (node : Bool) (d : List ℕ) → foldl (compress f) h (calls f node d) ≡ through_blocks f bb h 0 true node d
  unfolding calls through ended full spare
  calls_through h node d =
      let q = spare bb 0 (length d) in
      foldl-append (compress f) h (map (full d) (from 0 q)) (record { block = part bb d q; count = length d; last = true; node = node } ∷ [])
      ∙ rw (full_calls h d q) (call_last (absorb bb (on_bytes f) bb h 0 d q) d node q (omega (arith, spare_fits bb 0 some (length d) q (le_refl q))) (omega (arith, spare_left bb 0 some (length d))))

  -- the untruncated digest is the chain's last state
  pub untruncated_through : (p : Parameters) (node : Bool) (d : List ℕ)
      → untruncated f p node d ≡ state_bytes f (through_blocks f bb (start f p) 0 true node d)
  unfolding untruncated
  untruncated_through p node d = ap (state_bytes f) (calls_through (start f p) node d)

  -- at the stride of n leaves, from leaf i's first block on, the chain is the RFC's list of calls of that leaf's share
  pub share_calls_through : (n : ℕ) → 0 < n → (h : List ℕ) (node : Bool) (m : List ℕ) (i : ℕ)
      → foldl (compress f) h (calls f node (share bb n m i)) ≡ through_blocks f (n * bb) h 0 true node (drop (i * bb) m)
  share_calls_through n leaves h node m i =
      calls_through h node (share bb n m i) ∙ through_share bb n some leaves (on_bytes f) h 0 true node m i
