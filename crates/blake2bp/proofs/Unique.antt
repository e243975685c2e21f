-- Two answers that meet a public promise are equal, for every public function: one law, cited of the contract itself. A weaker
-- promise would be refused here. Assumes nothing.
use mathlib.Core.Path.{◌≡◌, ap}
use Rattle.std.specs.Prelude.{Result}
use Rattle.refusals.specs.declared.refusal.Refusal.{Refusal}
use Rattle.refusals.proofs.Settled.{settled}
use Rattle.hash.proofs.Unique.{Unique, unique, hash_settled}
use Rattle.blake2bp.specs.Answers.{ParamsAnswer, as_params_answer, StateAnswer, as_state_answer, CountAnswer, LeafCountAnswer, BufferedAnswer}
use Rattle.blake2bp.specs.State.{zero_state}
use Rattle.blake2bp.specs.declared.params.Params.{Params}
use Rattle.blake2bp.specs.declared.state.State.{State}
use Rattle.blake2bp.proofs.params.Params.new.Reads as params_new
use Rattle.blake2bp.proofs.params.Params.in_range.Reads as params_in_range
use Rattle.blake2bp.proofs.params.Params.hash_length.Reads as params_hash_length
use Rattle.blake2bp.proofs.params.Params.key.Reads as params_key
use Rattle.blake2bp.proofs.params.Params.to_state.Reads as params_to_state
use Rattle.blake2bp.proofs.params.Params.hash.Reads as params_hash
use Rattle.blake2bp.proofs.state.State.new.Reads as state_new
use Rattle.blake2bp.proofs.state.State.zero.Reads as state_zero
use Rattle.blake2bp.proofs.state.State.in_range.Reads as state_in_range
use Rattle.blake2bp.proofs.state.State.update.Reads as state_update
use Rattle.blake2bp.proofs.state.State.finalize.Reads as state_finalize
use Rattle.blake2bp.proofs.state.State.count.Reads as state_count
use Rattle.blake2bp.proofs.state.State.leaf_count.Reads as state_leaf_count
use Rattle.blake2bp.proofs.state.State.buffered.Reads as state_buffered
use Rattle.blake2bp.proofs.one_shot.blake2bp.Reads as blake2bp

-- two Results that are read as one answer are equal
same_params : (old : Params) {r q : Result Params Refusal} → as_params_answer old r ≡ as_params_answer old q → r ≡ q
same_params old e = settled old (ap (λ (a : ParamsAnswer). a.number) e) (ap (λ (a : ParamsAnswer). a.params) e)

same_state : (old : State) {r q : Result State Refusal} → as_state_answer old r ≡ as_state_answer old q → r ≡ q
same_state old e = settled old (ap (λ (a : StateAnswer). a.number) e) (ap (λ (a : StateAnswer). a.state) e)

pub params_new_unique : Unique params_new.Post
params_new_unique κs args r q exit e f = unique e f

pub params_in_range_unique : Unique params_in_range.Post
params_in_range_unique κs args r q exit e f = unique e f

pub params_hash_length_unique : Unique params_hash_length.Post
params_hash_length_unique κs args r q exit e f = same_params args.0 (unique e f)

pub params_key_unique : Unique params_key.Post
params_key_unique κs args r q exit e f = same_params args.0 (unique e f)

pub params_to_state_unique : Unique params_to_state.Post
params_to_state_unique κs args r q exit e f = same_state zero_state (unique e f)

pub params_hash_unique : Unique params_hash.Post
params_hash_unique κs args r q exit e f = hash_settled (unique e f)

pub state_new_unique : Unique state_new.Post
state_new_unique κs args r q exit e f = unique e f

pub state_zero_unique : Unique state_zero.Post
state_zero_unique κs args r q exit e f = unique e f

pub state_in_range_unique : Unique state_in_range.Post
state_in_range_unique κs args r q exit e f = unique e f

pub state_update_unique : Unique state_update.Post
state_update_unique κs args r q exit e f = same_state args.0 (unique e f)

pub state_finalize_unique : Unique state_finalize.Post
state_finalize_unique κs args r q exit e f = hash_settled (unique e f)

pub state_count_unique : Unique state_count.Post
state_count_unique κs args r q exit e f =
    let same = unique e f in
    settled (record { 0 = 0 }) (ap (λ (a : CountAnswer). a.number) same) (ap (λ (a : CountAnswer). a.count) same)

pub state_leaf_count_unique : Unique state_leaf_count.Post
state_leaf_count_unique κs args r q exit e f =
    let same = unique e f in
    settled (record { 0 = 0 }) (ap (λ (a : LeafCountAnswer). a.number) same) (ap (λ (a : LeafCountAnswer). a.count) same)

pub state_buffered_unique : Unique state_buffered.Post
state_buffered_unique κs args r q exit e f = let same = unique e f in settled 0 (ap (λ (a : BufferedAnswer). a.number) same) (ap (λ (a : BufferedAnswer). a.buffered) same)

pub blake2bp_unique : Unique blake2bp.Post
blake2bp_unique κs args r q exit e f = unique e f
