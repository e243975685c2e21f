-- Two answers that meet a public promise are equal, for every public function: one law, cited of the contract itself. A weaker promise
-- would be refused here. Assumes nothing.
use mathlib.Core.Path.{◌≡◌, ap}
use Prim.Native.Nat.{ℕ}
use Rattle.std.specs.Prelude.{Result}
use Rattle.refusals.specs.declared.refusal.Refusal.{Refusal}
use Rattle.refusals.proofs.Settled.{settled}
use Rattle.hash.proofs.Unique.{Unique, unique, hash_settled}
use Rattle.blake2b_state.specs.Answers.{StateAnswer, CountAnswer, as_state_answer, as_count_answer}
use Rattle.blake2b_state.specs.State.{zero_state}
use Rattle.blake2b_state.specs.declared.state.State.{State}
use Rattle.blake2b.specs.Answers.{ParamsAnswer, as_params_answer}
use Rattle.blake2b.specs.declared.params.Params.{Params}
use Rattle.blake2b.proofs.params.Params.new.Reads as params_new
use Rattle.blake2b.proofs.params.Params.in_range.Reads as params_in_range
use Rattle.blake2b.proofs.params.Params.hash_length.Reads as params_hash_length
use Rattle.blake2b.proofs.params.Params.key.Reads as params_key
use Rattle.blake2b.proofs.params.Params.salt.Reads as params_salt
use Rattle.blake2b.proofs.params.Params.personal.Reads as params_personal
use Rattle.blake2b.proofs.params.Params.fanout.Reads as params_fanout
use Rattle.blake2b.proofs.params.Params.max_depth.Reads as params_max_depth
use Rattle.blake2b.proofs.params.Params.max_leaf_length.Reads as params_max_leaf_length
use Rattle.blake2b.proofs.params.Params.node_offset.Reads as params_node_offset
use Rattle.blake2b.proofs.params.Params.node_depth.Reads as params_node_depth
use Rattle.blake2b.proofs.params.Params.inner_hash_length.Reads as params_inner_hash_length
use Rattle.blake2b.proofs.params.Params.last_node.Reads as params_last_node
use Rattle.blake2b.proofs.params.Params.is_keyed.Reads as params_is_keyed
use Rattle.blake2b.proofs.params.Params.key_block.Reads as params_key_block
use Rattle.blake2b.proofs.params.Params.digest_length.Reads as params_digest_length
use Rattle.blake2b.proofs.params.Params.is_last_node.Reads as params_is_last_node
use Rattle.blake2b.proofs.params.Params.to_words.Reads as params_to_words
use Rattle.blake2b.proofs.params.Params.to_state.Reads as params_to_state
use Rattle.blake2b.proofs.params.Params.hash.Reads as params_hash
use Rattle.blake2b_state.proofs.state.State.begin.Reads as state_begin
use Rattle.blake2b_state.proofs.state.State.new.Reads as state_new
use Rattle.blake2b_state.proofs.state.State.zero.Reads as state_zero
use Rattle.blake2b_state.proofs.state.State.in_range.Reads as state_in_range
use Rattle.blake2b_state.proofs.state.State.update.Reads as state_update
use Rattle.blake2b_state.proofs.state.State.finalize.Reads as state_finalize
use Rattle.blake2b_state.proofs.state.State.set_last_node.Reads as state_set_last_node
use Rattle.blake2b_state.proofs.state.State.count.Reads as state_count
use Rattle.blake2b.proofs.one_shot.blake2b.Reads as blake2b

-- Results that are read as one answer
pub params_settled : (old : Params) {r q : Result Params Refusal} → as_params_answer old r ≡ as_params_answer old q → r ≡ q
params_settled old e = settled old (ap (λ (a : ParamsAnswer). a.number) e) (ap (λ (a : ParamsAnswer). a.params) e)

pub state_settled : (old : State) {r q : Result State Refusal} → as_state_answer old r ≡ as_state_answer old q → r ≡ q
state_settled old e = settled old (ap (λ (a : StateAnswer). a.number) e) (ap (λ (a : StateAnswer). a.state) e)

pub count_settled : {r q : Result ℕ Refusal} → as_count_answer r ≡ as_count_answer q → r ≡ q
count_settled e = settled 0 (ap (λ (a : CountAnswer). a.number) e) (ap (λ (a : CountAnswer). a.count) e)

pub params_new_unique : Unique params_new.Post
params_new_unique κs args r q exit e f = unique e f

pub params_in_range_unique : Unique params_in_range.Post
params_in_range_unique κs args r q exit e f = unique e f

pub params_hash_length_unique : Unique params_hash_length.Post
params_hash_length_unique κs args r q exit e f = params_settled args.0 (unique e f)

pub params_key_unique : Unique params_key.Post
params_key_unique κs args r q exit e f = params_settled args.0 (unique e f)

pub params_salt_unique : Unique params_salt.Post
params_salt_unique κs args r q exit e f = params_settled args.0 (unique e f)

pub params_personal_unique : Unique params_personal.Post
params_personal_unique κs args r q exit e f = params_settled args.0 (unique e f)

pub params_fanout_unique : Unique params_fanout.Post
params_fanout_unique κs args r q exit e f = params_settled args.0 (unique e f)

pub params_max_depth_unique : Unique params_max_depth.Post
params_max_depth_unique κs args r q exit e f = params_settled args.0 (unique e f)

pub params_max_leaf_length_unique : Unique params_max_leaf_length.Post
params_max_leaf_length_unique κs args r q exit e f = params_settled args.0 (unique e f)

pub params_node_offset_unique : Unique params_node_offset.Post
params_node_offset_unique κs args r q exit e f = params_settled args.0 (unique e f)

pub params_node_depth_unique : Unique params_node_depth.Post
params_node_depth_unique κs args r q exit e f = params_settled args.0 (unique e f)

pub params_inner_hash_length_unique : Unique params_inner_hash_length.Post
params_inner_hash_length_unique κs args r q exit e f = params_settled args.0 (unique e f)

pub params_last_node_unique : Unique params_last_node.Post
params_last_node_unique κs args r q exit e f = params_settled args.0 (unique e f)

pub params_is_keyed_unique : Unique params_is_keyed.Post
params_is_keyed_unique κs args r q exit e f = unique e f

pub params_key_block_unique : Unique params_key_block.Post
params_key_block_unique κs args r q exit e f = unique e f

pub params_digest_length_unique : Unique params_digest_length.Post
params_digest_length_unique κs args r q exit e f = unique e f

pub params_is_last_node_unique : Unique params_is_last_node.Post
params_is_last_node_unique κs args r q exit e f = unique e f

pub params_to_words_unique : Unique params_to_words.Post
params_to_words_unique κs args r q exit e f = unique e f

pub params_to_state_unique : Unique params_to_state.Post
params_to_state_unique κs args r q exit e f = state_settled zero_state (unique e f)

pub params_hash_unique : Unique params_hash.Post
params_hash_unique κs args r q exit e f = hash_settled (unique e f)

pub state_begin_unique : Unique state_begin.Post
state_begin_unique κs args r q exit e f = state_settled zero_state (unique e f)

pub state_new_unique : Unique state_new.Post
state_new_unique κs args r q exit e f = unique e f

pub state_zero_unique : Unique state_zero.Post
state_zero_unique κs args r q exit e f = unique e f

pub state_in_range_unique : Unique state_in_range.Post
state_in_range_unique κs args r q exit e f = unique e f

pub state_update_unique : Unique state_update.Post
state_update_unique κs args r q exit e f = state_settled args.0 (unique e f)

pub state_finalize_unique : Unique state_finalize.Post
state_finalize_unique κs args r q exit e f = hash_settled (unique e f)

pub state_set_last_node_unique : Unique state_set_last_node.Post
state_set_last_node_unique κs args r q exit e f = state_settled args.0 (unique e f)

pub state_count_unique : Unique state_count.Post
state_count_unique κs args r q exit e f = count_settled (unique e f)

pub blake2b_unique : Unique blake2b.Post
blake2b_unique κs args r q exit e f = unique e f
