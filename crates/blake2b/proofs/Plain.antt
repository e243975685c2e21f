-- The default parameters ask for RFC 7693's plain hash: no key, and 64 bytes of digest, one-shot and through a state alike.
-- Assumes nothing.
use mathlib.Core.Path.{◌≡◌, refl, sym, ap, ◌∙◌}
use mathlib.Core.Bool.{false}
use mathlib.Core.List.{List, [], foldl}
use Prim.Native.Nat.{ℕ, ◌+◌, ◌≤◌}
use native.Mathlib.Omega.{arith}
use lib.ListN.{length, take}
use lib.Seq.{length-take-le}
use Rattle.definitions.specs.Words.{pad}
use Rattle.definitions.specs.Family.{BLAKE2b}
use Rattle.definitions.specs.Hash.{sequential, parameter_block, start, keyed, calls, compress, state_bytes, untruncated, hash, blake2}
use Rattle.laws_words.specs.Bytes.{zeros}
use Rattle.laws_blocks.proofs.Sizes.{length_whole}
use Rattle.refusals.specs.Numbers.{limit}
use Rattle.hash.specs.Hash.{hash_of}
use Rattle.hash.specs.Answers.{HashAnswer}
use Rattle.blake2b.specs.Params.{defaults, asked, front}
use Rattle.blake2b_state.specs.Sizes.{outbytes}
use Rattle.blake2b_state.specs.State.{key_front, plain, updated, finalized}
use Rattle.blake2b.specs.Member.{fresh, digest}
use Rattle.blake2b.proofs.Cleaned.{good_defaults}
use Rattle.blake2b.proofs.OneShot.{hashed_defaults, one_shot_is_incremental}
use Rattle.blake2b.proofs.Rows.{digest_is_hash}

start_plain : start BLAKE2b (asked defaults) ≡ start BLAKE2b (sequential outbytes 0)
unfolding start parameter_block pad zeros
start_plain = refl

pub hash_plain : (m : List ℕ) → hash BLAKE2b (asked defaults) false [] m ≡ blake2 BLAKE2b outbytes [] m
unfolding hash untruncated
hash_plain m = ap (λ (h : List ℕ). take outbytes (state_bytes BLAKE2b (foldl (compress BLAKE2b) h (calls BLAKE2b false (keyed BLAKE2b [] m))))) start_plain

pub length_of_digest : (m : List ℕ) → length (blake2 BLAKE2b outbytes [] m) ≡ outbytes
unfolding hash
length_of_digest m =
    let whole = length_whole BLAKE2b (omega arith) (sequential outbytes 0) false (keyed BLAKE2b [] m) in
    length-take-le outbytes (untruncated BLAKE2b (sequential outbytes 0) false (keyed BLAKE2b [] m)) (omega arith)

pub digest_plain : (m : List ℕ) → digest defaults m ≡ blake2 BLAKE2b outbytes [] m
digest_plain m = digest_is_hash defaults good_defaults.clean m ∙ hash_plain m

module _ (m : List ℕ) (few : length m ≤ limit) where
  -- there is no key block
  pub plain_within : length (front defaults) + length m ≤ limit
  unfolding key_front
  plain_within = omega arith

  -- a fresh state, one update, and then the digest
  pub finalized_plain : (finalized (updated (fresh defaults) m).state).hash ≡ hash_of (blake2 BLAKE2b outbytes [] m)
  finalized_plain =
      ap (λ (a : HashAnswer). a.hash) (sym (one_shot_is_incremental defaults good_defaults.clean.whole good_defaults.ranged m plain_within) ∙ hashed_defaults m few)
      ∙ ap hash_of (digest_plain m)

-- the state that `State::new` makes is that of the default parameters
pub new_is_default : plain ≡ fresh defaults
unfolding start parameter_block pad zeros
new_is_default = refl
