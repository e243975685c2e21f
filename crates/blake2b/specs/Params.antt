-- Parameters: the defaults, their ranges, what each setter changes, and the paper's parameters that they ask for.
-- Assumes nothing.
use Rattle.std.specs.Prelude.{Bool, false, cond, ◌&&◌, List, [], ◌∷◌, ◌≡◌, ℕ, leb, eqb, length, take}
use Rattle.definitions.specs.Words.{pad}
use Rattle.definitions.specs.Hash.{Parameters}
use Rattle.laws_words.specs.Bytes.{zeros}
use Rattle.refusals.specs.Numbers.{accepted, digest_length, key_length, salt_length, personal_length, inner_length, bad_record}
use Rattle.refusals.specs.Tests.{Test, test, tested}
use Rattle.hash.specs.Hash.{is_digest_length}
use Rattle.blake2b_state.specs.Sizes.{blockbytes, outbytes, keybytes, fieldbytes}
use Rattle.blake2b_state.specs.State.{key_front}
use Rattle.blake2b.specs.declared.params.Params.{Params}
use Rattle.blake2b.specs.Answers.{ParamsAnswer}

abbrev pub defaults : Params
defaults = record {
  hash_length = outbytes;
  key_length = 0;
  key_block = zeros blockbytes;
  salt = zeros fieldbytes;
  personal = zeros fieldbytes;
  fanout = 1;
  max_depth = 1;
  max_leaf_length = 0;
  node_offset = 0;
  node_depth = 0;
  inner_hash_length = 0;
  last_node = false;
}

-- the ranges of refusal 14
unfoldable pub in_range : Params → Bool
in_range p = is_digest_length p.hash_length && (leb p.key_length keybytes && leb p.inner_hash_length outbytes)

-- what a setter answers: 14 where the record is bad, its own refusal where what it was given is, else the changed record
abbrev pub answered : Params → List Test → Params → ParamsAnswer
answered p ts changed = tested (test (in_range p) bad_record ∷ ts) (record { number = accepted; params = changed }) (λ n. record { number = n; params = p })

-- the number fields, by place
abbrev pub hash_length_at : ℕ
hash_length_at = 0

abbrev pub fanout_at : ℕ
fanout_at = 1

abbrev pub max_depth_at : ℕ
max_depth_at = 2

abbrev pub max_leaf_length_at : ℕ
max_leaf_length_at = 3

abbrev pub node_offset_at : ℕ
node_offset_at = 4

abbrev pub node_depth_at : ℕ
node_depth_at = 5

abbrev pub inner_hash_length_at : ℕ
inner_hash_length_at = 6

-- the parameters with the number field `at` set to n
abbrev pub with_number : ℕ → ℕ → Params → Params
with_number at n p = record {
  hash_length = cond (eqb at hash_length_at) n p.hash_length;
  key_length = p.key_length;
  key_block = p.key_block;
  salt = p.salt;
  personal = p.personal;
  fanout = cond (eqb at fanout_at) n p.fanout;
  max_depth = cond (eqb at max_depth_at) n p.max_depth;
  max_leaf_length = cond (eqb at max_leaf_length_at) n p.max_leaf_length;
  node_offset = cond (eqb at node_offset_at) n p.node_offset;
  node_depth = cond (eqb at node_depth_at) n p.node_depth;
  inner_hash_length = cond (eqb at inner_hash_length_at) n p.inner_hash_length;
  last_node = p.last_node;
}

-- the parameters with other byte fields and another flag
abbrev pub with_fields : Params → ℕ → List ℕ → List ℕ → List ℕ → Bool → Params
with_fields p key_length key-block salt personal last_node = record {
  hash_length = p.hash_length;
  key_length = key_length;
  key_block = key-block;
  salt = salt;
  personal = personal;
  fanout = p.fanout;
  max_depth = p.max_depth;
  max_leaf_length = p.max_leaf_length;
  node_offset = p.node_offset;
  node_depth = p.node_depth;
  inner_hash_length = p.inner_hash_length;
  last_node = last_node;
}

-- a key, a salt and a personalization are zero-filled on the right: nothing of an older one stays
abbrev pub with_key : List ℕ → Params → Params
with_key key p = with_fields p (length key) (pad blockbytes key) p.salt p.personal p.last_node

abbrev pub with_salt : List ℕ → Params → Params
with_salt salt p = with_fields p p.key_length p.key_block (pad fieldbytes salt) p.personal p.last_node

abbrev pub with_personal : List ℕ → Params → Params
with_personal personal p = with_fields p p.key_length p.key_block p.salt (pad fieldbytes personal) p.last_node

abbrev pub with_last_node : Bool → Params → Params
with_last_node up p = with_fields p p.key_length p.key_block p.salt p.personal up

-- the paper's parameters
abbrev pub asked : Params → Parameters
asked p = record {
  digest_length = p.hash_length;
  key_length = p.key_length;
  fanout = p.fanout;
  depth = p.max_depth;
  leaf_length = p.max_leaf_length;
  node_offset = p.node_offset;
  node_depth = p.node_depth;
  inner_length = p.inner_hash_length;
  salt = p.salt;
  personal = p.personal;
}

-- the key block in front of the message: none without a key
abbrev pub front : Params → List ℕ
front p = key_front (leb 1 p.key_length) p.key_block

-- the key
abbrev pub key_of : Params → List ℕ
key_of p = take p.key_length p.key_block

-- parameters as the setters leave them: the key block is the key, zero-filled
pub record Clean (p : Params) : Type 0 where
  pub whole : length p.key_block ≡ blockbytes
  pub filled : p.key_block ≡ pad blockbytes (key_of p)

-- a call of a setter, and the parameters that it hands back
pub data Setting : Type 0 where
  hash_length : ℕ → Setting
  key : List ℕ → Setting
  salt : List ℕ → Setting
  personal : List ℕ → Setting
  fanout : ℕ → Setting
  max_depth : ℕ → Setting
  max_leaf_length : ℕ → Setting
  node_offset : ℕ → Setting
  node_depth : ℕ → Setting
  inner_hash_length : ℕ → Setting
  last_node : Bool → Setting

abbrev pub after_setting : Params → Setting → Params
after_setting p (hash_length n) = (answered p (test (is_digest_length n) digest_length ∷ []) (with_number hash_length_at n p)).params
after_setting p (key k) = (answered p (test (leb (length k) keybytes) key_length ∷ []) (with_key k p)).params
after_setting p (salt s) = (answered p (test (leb (length s) fieldbytes) salt_length ∷ []) (with_salt s p)).params
after_setting p (personal s) = (answered p (test (leb (length s) fieldbytes) personal_length ∷ []) (with_personal s p)).params
after_setting p (fanout n) = (answered p [] (with_number fanout_at n p)).params
after_setting p (max_depth n) = (answered p [] (with_number max_depth_at n p)).params
after_setting p (max_leaf_length n) = (answered p [] (with_number max_leaf_length_at n p)).params
after_setting p (node_offset n) = (answered p [] (with_number node_offset_at n p)).params
after_setting p (node_depth n) = (answered p [] (with_number node_depth_at n p)).params
after_setting p (inner_hash_length n) = (answered p (test (leb n outbytes) inner_length ∷ []) (with_number inner_hash_length_at n p)).params
after_setting p (last_node up) = (answered p [] (with_last_node up p)).params
