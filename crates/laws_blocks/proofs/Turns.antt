-- A loop over the blocks of an input, turn by turn: k blocks have gone, and block k is there. For any family and any row.
-- Assumes nothing.
use mathlib.Core.Path.{◌≡◌, refl, sym, ap, ◌∙◌}
use mathlib.Core.Bool.{Bool, true, false, ◌&&◌}
use mathlib.Core.List.{List}
use Prim.Native.Nat.{ℕ, suc, ◌+◌, ◌-◌, ◌*◌, ◌/◌, ◌%◌, ◌^◌, ◌<◌, ◌≤◌, min}
use native.Mathlib.Nat.{mul-zero, add-zero}
use native.Mathlib.Omega.{arith}
use lib.Dec.{leb}
use lib.ListN.{length, drop}
use Rattle.definitions.specs.Words.{pad}
use Rattle.definitions.specs.Family.{Family}
use Rattle.definitions.specs.Compress.{F}
use Rattle.definitions.specs.Hash.{words}
use Rattle.definitions.proofs.Lengths.{length_pad}
use Rattle.laws_blocks.specs.Chain.{spare, block_at, absorb}
use Rattle.laws_blocks.specs.Offsets.{padded_buffer, final_block}
use Rattle.laws_blocks.specs.Blocks.{on_bytes, through_blocks}
use Rattle.laws_blocks.proofs.Chains.{absorb_step, through_step}
use Rattle.laws_blocks.proofs.Calls.{compressed_on_bytes}
use Rattle.laws_blocks.proofs.Offsets as offsets

module _ (f : Family) (d : List ℕ) (row : ℕ) (b : List ℕ) where
  -- before the loop: a block fits into a row, and the buffer is padded for the last block
  pub record Ready : Type 0 where
    pub some : 0 < f.bb
    pub wide : f.bb ≤ row
    pub old : List ℕ
    pub old_long : length old ≡ f.bb
    pub padded : b ≡ padded_buffer f.bb d (row * spare row 0 (length d)) old

  -- at its head, from the words w₀ and the count t on: k blocks have gone
  pub record Reached (t : ℕ) (w₀ v : List ℕ) (n o : ℕ) : Type 0 where
    pub ready : Ready
    pub k : ℕ
    pub offset : o ≡ row * k
    pub there : k ≤ spare row 0 (length d)
    pub counted : n ≡ t + f.bb * k
    pub absorbed : v ≡ absorb f.bb (on_bytes f) row w₀ t d k

  -- after a compression: where the block was the last, its words are those of the run with these flags, else the next block is reached
  pub record Turned (t : ℕ) (w₀ : List ℕ) (fin node last : Bool) (r : List ℕ) (n o : ℕ) : Type 0 where
    pub ends : last ≡ true → r ≡ through_blocks f row w₀ t fin node d
    pub goes_on : last ≡ false → Reached t w₀ r n (o + row)
    pub inside : last ≡ false → o + row < length d
    pub nearer : last ≡ false → length d - (o + row) < length d - o

module _ {f : Family} {d : List ℕ} {row : ℕ} {b : List ℕ} where
  open f use {w, bb}

  -- as code makes it ready: a buffer z of a block is padded at the offset e
  pub ready : 0 < bb → bb ≤ row → (z : List ℕ) {e : ℕ} → length z ≡ bb → e ≡ row * spare row 0 (length d) → b ≡ padded_buffer (length z) d e z → Ready f d row b
  ready h g z l e p = record { some = h; wide = g; old = z; old_long = l; padded = p ∙ (λ i. padded_buffer (l i) d (e i) z) }

  pub buffer_long : Ready f d row b → length b ≡ bb
  buffer_long s = ap length s.padded ∙ offsets.length_buffer bb d (row * spare row 0 (length d)) s.old s.old_long

  pub begun : Ready f d row b → (t : ℕ) (w₀ : List ℕ) → Reached f d row b t w₀ w₀ t 0
  unfolding absorb
  begun s t w₀ =
      record {
        ready = s;
        k = 0;
        offset = sym (mul-zero row);
        there = omega arith;
        counted = sym (ap (λ (n : ℕ). t + n) (mul-zero bb) ∙ add-zero t);
        absorbed = refl;
      }

  module _ {t : ℕ} {w₀ v : List ℕ} {n o : ℕ} (h : Reached f d row b t w₀ v n o) where
    some : 0 < bb
    some = h.ready.some

    wide : bb ≤ row
    wide = h.ready.wide

    here : List ℕ
    here = block_at bb row d h.k

    -- the block that is there, padded
    block_is : {x : List ℕ} → x ≡ final_block (length b) d o b → x ≡ pad bb here
    unfolding here
    block_is g = g ∙ (λ i. final_block (buffer_long h.ready i) d (h.offset i) (h.ready.padded i)) ∙ offsets.block_at_lem bb some d row wide h.k h.ready.old h.there

    pub block_long : {x : List ℕ} → x ≡ final_block (length b) d o b → length x ≡ bb
    unfolding here
    block_long g = ap length (block_is g) ∙ length_pad bb here (offsets.short_block bb some d row wide h.k)

    count_is : {len : ℕ} → len ≡ min bb (length (drop o d)) → n + len ≡ t + bb * h.k + length here
    unfolding here
    count_is e = λ i. h.counted i + (rw h.offset at e ∙ offsets.length_block bb some d row wide h.k) i

    pub count_fits : {len : ℕ} → len ≡ min bb (length (drop o d)) → (limit : ℕ) → t + length d < limit → n + len < limit
    unfolding here
    count_fits e limit g = below_as (count_is e) (offsets.count_fits bb some d row wide limit t h.k h.there g)
      where
        below_as : {a c : ℕ} → a ≡ c → c < limit → a < limit
        below_as p q = omega arith

    -- the compression of the block that is there, at its count in two words and with flags that only a last block has
    pub turned : (fin node : Bool) {len lo hi : ℕ} {last l m : Bool} {x r : List ℕ}
        → len ≡ min bb (length (drop o d)) → last ≡ leb (length (drop o d)) row → x ≡ final_block (length b) d o b
        → lo ≡ (n + len) % 2 ^ w → hi ≡ (n + len) / 2 ^ w → l ≡ (last && fin) → m ≡ (last && node)
        → r ≡ F f v (words f 16 x) (lo + hi * 2 ^ w) l m → Turned f d row b t w₀ fin node last r (n + len) o
    unfolding here
    turned fin node {len} {lo} {hi} {last} {l} {m} {x} {r} el em ex elo ehi fl fm er =
        record {
          ends = λ e. through_step bb (on_bytes f) row w₀ t fin node d h.k
              (offsets.last_is bb some d row wide h.k h.there (sym last_at ∙ e)) h.absorbed refl refl (compressed e);
          goes_on = λ e. record {
            ready = h.ready;
            k = suc h.k;
            offset = next h.offset;
            there = following e;
            counted = count_is el ∙ whole e;
            absorbed = absorb_step bb (on_bytes f) row w₀ t d h.k h.absorbed refl (whole e) (compressed e);
          };
          inside = inside;
          nearer = λ e. less (inside e);
        }
      where
        last_at : last ≡ leb (length (drop (row * h.k) d)) row
        last_at = rw h.offset at em

        compressed : {q : Bool} → last ≡ q → r ≡ on_bytes f v here (t + bb * h.k + length here) (q && fin) (q && node)
        compressed e =
            compressed_on_bytes f v here elo ehi (count_is el) (block_is ex) (fl ∙ ap (λ (c : Bool). c && fin) e) (fm ∙ ap (λ (c : Bool). c && node) e) er

        following : last ≡ false → suc h.k ≤ spare row 0 (length d)
        following e = offsets.last_not bb some d row wide h.k (sym last_at ∙ e)

        whole : last ≡ false → t + bb * h.k + length here ≡ t + bb * suc h.k
        whole e = count (offsets.whole_block bb some d row wide h.k (following e))
          where
            count : {y : ℕ} → y ≡ bb → t + bb * h.k + y ≡ t + bb * suc h.k
            count p = omega arith

        next : {a : ℕ} → a ≡ row * h.k → a + row ≡ row * suc h.k
        next p = omega arith

        inside : last ≡ false → o + row < length d
        inside e = below h.offset (offsets.row_more bb some d row wide h.k (following e))
          where
            below : {a c : ℕ} → a ≡ c → c + row < length d → a + row < length d
            below p q = omega arith

        less : o + row < length d → length d - (o + row) < length d - o
        less g = omega (arith, some, wide)
