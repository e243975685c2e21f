-- Whatever setters are called, the parameters that they hand back are in range and clean: the key block is the key, zero-filled.
-- Assumes nothing.
use mathlib.Core.Path.{◌≡◌, refl, sym, ap}
use mathlib.Core.Bool.{Bool, true, false, ◌&&◌, and-eq-true_iff}
use mathlib.Core.List.{List, [], ◌∷◌, foldl}
use Prim.Native.Nat.{ℕ, ◌-◌}
use native.Mathlib.Omega.{arith}
use borrow.Author.Tests.{leb-true}
use lib.Dec.{leb, eqb}
use lib.ListN.{length, replicate}
use lib.Seq.{take-append_seam}
use Rattle.definitions.specs.Words.{pad}
use Rattle.definitions.proofs.Lengths.{length_pad}
use Rattle.laws_words.specs.Bytes.{zeros}
use Rattle.refusals.specs.Numbers.{accepted, digest_length, key_length, salt_length, personal_length, inner_length, bad_record}
use Rattle.refusals.specs.Tests.{Test, test}
use Rattle.refusals.proofs.Picks.{All, tested_keeps}
use Rattle.hash.specs.Hash.{is_digest_length}
use Rattle.blake2b_state.specs.Sizes.{blockbytes, outbytes, keybytes, fieldbytes}
use Rattle.blake2b.specs.Params.{defaults, in_range, answered, with_number, with_fields, with_key, with_salt, with_personal, Clean}
use Rattle.blake2b.specs.Params.{hash_length_at, fanout_at, max_depth_at, max_leaf_length_at, node_offset_at, node_depth_at, inner_hash_length_at}
use Rattle.blake2b.specs.Params.{Setting, hash_length, key, salt, personal, fanout, max_depth, max_leaf_length, node_offset, node_depth, inner_hash_length, last_node}
use Rattle.blake2b.specs.Params.{after_setting}
use Rattle.blake2b.specs.declared.params.Params.{Params}
use Rattle.blake2b.specs.Answers.{ParamsAnswer}

-- what parameters out of this crate keep
pub record Good (p : Params) : Type 0 where
  pub ranged : in_range p ≡ true
  pub clean : Clean p

pub good_defaults : Good defaults
unfolding in_range zeros pad
good_defaults = record { ranged = refl; clean = record { whole = refl; filled = refl } }

-- a refused setter leaves what was good
good_answered : (p : Params) (ts : List Test) (changed : Params) → Good p → (All ts → Good changed) → Good (answered p ts changed).params
good_answered p ts changed g d =
    tested_keeps (λ (a : ParamsAnswer). Good a.params) (test (in_range p) bad_record ∷ ts)
    (record { number = accepted; params = changed }) (λ n. record { number = n; params = p }) (λ h. d h.1) (λ n. g)

-- the three tests of the range
pub record Tests (p : Params) : Type 0 where
  pub digest : is_digest_length p.hash_length ≡ true
  pub short : leb p.key_length keybytes ≡ true
  pub inner : leb p.inner_hash_length outbytes ≡ true

pub tests : (p : Params) → in_range p ≡ true → Tests p
unfolding in_range
tests p e =
    let d = (and-eq-true_iff (is_digest_length p.hash_length) (leb p.key_length keybytes && leb p.inner_hash_length outbytes)).0 e in
    let k = (and-eq-true_iff (leb p.key_length keybytes) (leb p.inner_hash_length outbytes)).0 d.1 in
    record { digest = d.0; short = k.0; inner = k.1 }

ranged_by : (p : Params) → Tests p → in_range p ≡ true
unfolding in_range
ranged_by p t = rw (t.digest, t.short) t.inner

good_digest : (n : ℕ) (p : Params) → Good p → is_digest_length n ≡ true → Good (with_number hash_length_at n p)
good_digest n p g e =
    let t = tests p g.ranged in
    record {
      ranged = ranged_by (with_number hash_length_at n p) (record { digest = e; short = t.short; inner = t.inner });
      clean = record { whole = g.clean.whole; filled = g.clean.filled };
    }

good_inner : (n : ℕ) (p : Params) → Good p → leb n outbytes ≡ true → Good (with_number inner_hash_length_at n p)
good_inner n p g e =
    let t = tests p g.ranged in
    record {
      ranged = ranged_by (with_number inner_hash_length_at n p) (record { digest = t.digest; short = t.short; inner = e });
      clean = record { whole = g.clean.whole; filled = g.clean.filled };
    }

good_key : (k : List ℕ) (p : Params) → Good p → leb (length k) keybytes ≡ true → Good (with_key k p)
good_key k p g e =
    let t = tests p g.ranged in
    let h = leb-true (length k) keybytes e in
    record {
      ranged = ranged_by (with_key k p) (record { digest = t.digest; short = e; inner = t.inner });
      clean = record { whole = length_pad blockbytes k (omega arith); filled = ap (pad blockbytes) (sym (unfold pad in take-append_seam k (replicate (blockbytes - length k) 0))) };
    }

-- what has neither a range nor a part in the key
good_number : (at n : ℕ) (p : Params) → Good p → eqb at hash_length_at ≡ false → eqb at inner_hash_length_at ≡ false → Good (with_number at n p)
unfolding in_range
good_number at n p g e f = record { ranged = rw (e, f) g.ranged; clean = record { whole = g.clean.whole; filled = g.clean.filled } }

good_fields : (p : Params) (s q : List ℕ) (node : Bool) → Good p → Good (with_fields p p.key_length p.key_block s q node)
unfolding in_range
good_fields p s q node g = record { ranged = g.ranged; clean = record { whole = g.clean.whole; filled = g.clean.filled } }

pub good_after : (p : Params) (s : Setting) → Good p → Good (after_setting p s)
good_after p (hash_length n) g = good_answered p (test (is_digest_length n) digest_length ∷ []) _ g (λ h. good_digest n p g h.0)
good_after p (key k) g = good_answered p (test (leb (length k) keybytes) key_length ∷ []) _ g (λ h. good_key k p g h.0)
good_after p (salt s) g = good_answered p (test (leb (length s) fieldbytes) salt_length ∷ []) _ g (λ e. good_fields p (with_salt s p).salt p.personal p.last_node g)
good_after p (personal s) g = good_answered p (test (leb (length s) fieldbytes) personal_length ∷ []) _ g (λ e. good_fields p p.salt (with_personal s p).personal p.last_node g)
good_after p (fanout n) g = good_answered p [] _ g (λ e. good_number fanout_at n p g refl refl)
good_after p (max_depth n) g = good_answered p [] _ g (λ e. good_number max_depth_at n p g refl refl)
good_after p (max_leaf_length n) g = good_answered p [] _ g (λ e. good_number max_leaf_length_at n p g refl refl)
good_after p (node_offset n) g = good_answered p [] _ g (λ e. good_number node_offset_at n p g refl refl)
good_after p (node_depth n) g = good_answered p [] _ g (λ e. good_number node_depth_at n p g refl refl)
good_after p (inner_hash_length n) g = good_answered p (test (leb n outbytes) inner_length ∷ []) _ g (λ h. good_inner n p g h.0)
good_after p (last_node up) g = good_answered p [] _ g (λ e. good_fields p p.salt p.personal up g)

-- any setters, from the defaults
pub settings_good : (ss : List Setting) (p : Params) → Good p → Good (foldl after_setting p ss)
settings_good [] p g = g
settings_good (s ∷ ss) p g = settings_good ss (after_setting p s) (good_after p s g)
