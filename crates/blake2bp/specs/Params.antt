-- Parameters: the defaults, their ranges, what each of the two setters changes, and the key.
-- Assumes nothing.
use Rattle.std.specs.Prelude.{Bool, ◌&&◌, List, [], ◌∷◌, ℕ, leb, length, take}
use Rattle.definitions.specs.Words.{pad}
use Rattle.laws_words.specs.Bytes.{zeros}
use Rattle.refusals.specs.Numbers.{accepted, digest_length, key_length, bad_record}
use Rattle.refusals.specs.Tests.{Test, test, tested}
use Rattle.hash.specs.Hash.{is_digest_length}
use Rattle.blake2bp_leaves.specs.Sizes.{outbytes}
use Rattle.blake2bp.specs.Sizes.{keybytes}
use Rattle.blake2bp.specs.declared.params.Params.{Params}
use Rattle.blake2bp.specs.Answers.{ParamsAnswer}

abbrev pub defaults : Params
defaults = record { hash_length = outbytes; key_length = 0; key = zeros keybytes }

-- the ranges of refusal 14
unfoldable pub in_range : Params → Bool
in_range p = is_digest_length p.hash_length && leb p.key_length keybytes

-- what a setter answers: 14 where the record is bad, its own refusal where what it was given is, else the changed record
unfoldable pub answered : Params → List Test → Params → ParamsAnswer
answered p ts changed = tested (test (in_range p) bad_record ∷ ts) (record { number = accepted; params = changed }) (λ n. record { number = n; params = p })

abbrev pub with_hash_length : ℕ → Params → Params
with_hash_length n p = record { hash_length = n; key_length = p.key_length; key = p.key }

-- a key is zero-filled on the right: nothing of an older one stays
abbrev pub with_key : List ℕ → Params → Params
with_key key p = record { hash_length = p.hash_length; key_length = length key; key = pad keybytes key }

-- the key
abbrev pub key_of : Params → List ℕ
key_of p = take p.key_length p.key

-- a call of a setter, and the parameters that it hands back
pub data Setting : Type 0 where
  hash_length : ℕ → Setting
  key : List ℕ → Setting

abbrev pub after_setting : Params → Setting → Params
after_setting p (hash_length n) = (answered p (test (is_digest_length n) digest_length ∷ []) (with_hash_length n p)).params
after_setting p (key k) = (answered p (test (leb (length k) keybytes) key_length ∷ []) (with_key k p)).params
