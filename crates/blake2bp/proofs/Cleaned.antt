-- Whatever setters are called, the parameters that they hand back are in range, and their key has its 64 bytes.
-- Assumes nothing.
use mathlib.Core.Path.{◌≡◌, refl}
use mathlib.Core.Bool.{true}
use mathlib.Core.List.{List, [], ◌∷◌, foldl}
use Prim.Native.Nat.{ℕ}
use borrow.Author.Tests.{le-leb, leb-true}
use lib.Dec.{leb}
use lib.ListN.{length}
use Rattle.definitions.proofs.Lengths.{length_pad}
use Rattle.laws_words.specs.Bytes.{zeros}
use Rattle.refusals.specs.Numbers.{accepted, bad_record}
use Rattle.refusals.specs.Tests.{Test, test}
use Rattle.refusals.proofs.Picks.{All, tested_keeps}
use Rattle.hash.specs.Hash.{is_digest_length}
use Rattle.blake2bp.specs.Sizes.{keybytes}
use Rattle.blake2bp.specs.Params.{defaults, in_range, answered, with_hash_length, with_key, Setting, hash_length, key, after_setting}
use Rattle.blake2bp.specs.declared.params.Params.{Params}
use Rattle.blake2bp.specs.Answers.{ParamsAnswer}
use Rattle.blake2bp.proofs.Setters.{digest_asked, key_short}

-- what parameters out of this crate keep
pub record Good (p : Params) : Type 0 where
  pub ranged : in_range p ≡ true
  pub whole : length p.key ≡ keybytes

pub good_defaults : Good defaults
unfolding in_range zeros
good_defaults = record { ranged = refl; whole = refl }

-- a refused setter leaves what was good
good_answered : (p : Params) (ts : List Test) (changed : Params) → Good p → (All ts → Good changed) → Good (answered p ts changed).params
unfolding answered
good_answered p ts changed g d =
    tested_keeps (λ (a : ParamsAnswer). Good a.params) (test (in_range p) bad_record ∷ ts)
    (record { number = accepted; params = changed }) (λ n. record { number = n; params = p }) (λ h. d h.1) (λ n. g)

good_digest : (n : ℕ) (p : Params) → Good p → is_digest_length n ≡ true → Good (with_hash_length n p)
unfolding in_range
good_digest n p g e = record { ranged = rw (e, le-leb p.key_length keybytes (key_short p g.ranged)); whole = g.whole }

good_key : (k : List ℕ) (p : Params) → Good p → leb (length k) keybytes ≡ true → Good (with_key k p)
unfolding in_range
good_key k p g e = record { ranged = rw (digest_asked p g.ranged, e); whole = length_pad keybytes k (leb-true (length k) keybytes e) }

good_after : (p : Params) (s : Setting) → Good p → Good (after_setting p s)
good_after p (hash_length n) g = good_answered p _ _ g (λ h. good_digest n p g h.0)
good_after p (key k) g = good_answered p _ _ g (λ h. good_key k p g h.0)

-- any setters, from the defaults
pub settings_good : (ss : List Setting) (p : Params) → Good p → Good (foldl after_setting p ss)
settings_good [] p g = g
settings_good (s ∷ ss) p g = settings_good ss (after_setting p s) (good_after p s g)
