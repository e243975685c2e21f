-- The hash of a whole message is what a state answers that took it: with a key through the state, without one straight.
-- Assumes nothing.
use mathlib.Core.Path.{◌≡◌, refl, ap, ◌∙◌}
use mathlib.Core.Bool.{Bool, true, false}
use mathlib.Core.List.{List, []}
use Prim.Native.Nat.{ℕ, ◌+◌, ◌≤◌}
use native.Mathlib.Nat.{zero-add}
use native.Mathlib.Omega.{arith}
use borrow.Author.Tests.{lt-leb}
use lib.Dec.{leb}
use lib.ListN.{length, take}
use Rattle.definitions.specs.Family.{BLAKE2b}
use Rattle.definitions.specs.Hash.{start, state_bytes}
use Rattle.laws_blocks.specs.Blocks.{through_blocks}
use Rattle.std.specs.Prelude.{Ok, Err}
use Rattle.refusals.specs.Numbers.{accepted, total_over, bad_record, limit}
use Rattle.refusals.specs.declared.refusal.Refusal.{Refusal}
use Rattle.refusals.proofs.Settled.{never_accepted}
use Rattle.guts.specs.Guts.{is_last_node}
use Rattle.guts.specs.declared.LastNode.{LastNode}
use Rattle.members.proofs.Cuts.{range_fresh}
use Rattle.members.proofs.Promises as promises
use Rattle.hash.specs.Hash.{hash_of, no_hash, made_from}
use Rattle.hash.specs.Answers.{HashAnswer, as_hash_answer}
use Rattle.laws_blocks.proofs.Sizes.{length_through}
use Rattle.hash.proofs.Digests.{made_hash}
use Rattle.blake2b.specs.Params.{defaults, in_range, asked, front}
use Rattle.blake2b_state.specs.Sizes.{blockbytes}
use Rattle.blake2b_state.specs.State.{key_front, zero_state, total, state_in_range, updated, finalized, reads}
use Rattle.blake2b.specs.Member.{fresh, digest, opened, hashed, member}
use Rattle.blake2b.specs.declared.params.Params.{Params}
use Rattle.blake2b_state.specs.Answers.{StateAnswer, as_state_answer}
use Rattle.blake2b_state.specs.declared.state.State.{State}
use Rattle.blake2b.proofs.Cleaned.{good_defaults}
use Rattle.blake2b.proofs.Members.{laws, digest_asked, begun}
use Rattle.blake2b_state.proofs.States.{faithful}

-- what opening a state answered
module _ (p : Params) where
  pub opened_fresh : {s : State} → as_state_answer zero_state (Ok s) ≡ opened p → (in_range p ≡ true) × (s ≡ fresh p)
  unfolding opened
  opened_fresh {s} e = split (in_range p) refl
    where
      split : (b : Bool) → in_range p ≡ b → (in_range p ≡ true) × (s ≡ fresh p)
      split true f = (f, ap (λ (a : StateAnswer). a.state) (rw f at e))
      split false f = let n : accepted ≡ bad_record = ap (λ (a : StateAnswer). a.number) (rw f at e) in absurd (omega arith)

  -- a refusal is that of the hash
  pub hashed_unopened : (refusal : Refusal) → as_state_answer zero_state (Err refusal) ≡ opened p → (m : List ℕ) → as_hash_answer (Err refusal) ≡ hashed p m
  unfolding opened hashed
  hashed_unopened refusal e m = split (in_range p) refl
    where
      split : (b : Bool) → in_range p ≡ b → as_hash_answer (Err refusal) ≡ hashed p m
      split true f = absurd (never_accepted refusal (ap (λ (a : StateAnswer). a.number) (rw f at e)))
      split false f = rw f (ap no_hash (ap (λ (a : StateAnswer). a.number) (rw f at e)))

module _ (p : Params) (whole : length p.key_block ≡ blockbytes) (good : in_range p ≡ true) (m : List ℕ) where
  -- through a state: a refusal of the update is that of the hash
  module _ {u : StateAnswer} (e : u ≡ updated (fresh p) m) where
    -- there is but one
    over : (u.number ≡ accepted → ⊥) → u.number ≡ total_over
    unfolding updated
    over f = split (leb (total (fresh p) + length m) limit) refl
      where
        in_range : state_in_range (fresh p) ≡ true
        in_range = range_fresh member laws p (begun p whole good)

        split : (b : Bool) → leb (total (fresh p) + length m) limit ≡ b → u.number ≡ total_over
        split true h = absurd (f (ap (λ (a : StateAnswer). a.number) e ∙ rw (in_range, h)))
        split false h = ap (λ (a : StateAnswer). a.number) e ∙ rw (in_range, h)

    pub hashed_past : {r : HashAnswer} → (u.number ≡ accepted → ⊥) → r ≡ no_hash u.number → r ≡ hashed p m
    unfolding hashed updated
    hashed_past f g = promises.hashed_past member laws reads faithful p (begun p whole good) m e f (g ∙ ap no_hash (over f))

    pub hashed_through : {r : HashAnswer} → u.number ≡ accepted → r ≡ finalized u.state → r ≡ hashed p m
    unfolding hashed updated finalized
    hashed_through = promises.hashed_through member laws reads faithful p (begun p whole good) m e

  -- and straight through the blocks, where there is no key
  pub hashed_straight : p.key_length ≤ 0 → length m ≤ limit → {w v : List ℕ} (n : LastNode) {r : HashAnswer} → v ≡ start BLAKE2b (asked p) → is_last_node n ≡ p.last_node
      → w ≡ through_blocks BLAKE2b blockbytes v 0 true (is_last_node n) m → r ≡ made_from (state_bytes BLAKE2b w) p.hash_length → r ≡ hashed p m
  unfolding hashed
  hashed_straight none few {w} {v} n e f k g =
      let z : front p ≡ [] = unfold key_front in rw (lt-leb 1 p.key_length (omega arith)) in
      promises.hashed_straight member laws reads faithful p (begun p whole good) m z few
      (made_hash p.hash_length (state_bytes BLAKE2b w) (digest_asked p good)
      (ap (λ (x : List ℕ). length (state_bytes BLAKE2b x)) k ∙ length_through BLAKE2b blockbytes v 0 true _ m) g
      ∙ ap (λ (x : List ℕ). reads.made (take p.hash_length (state_bytes BLAKE2b x))) (k ∙ (λ i. through_blocks BLAKE2b blockbytes (e i) 0 true (f i) m)))

  -- the one-shot answer is that of a state that took the message, with a key or without
  pub one_shot_is_incremental : length (front p) + length m ≤ limit → hashed p m ≡ finalized (updated (fresh p) m).state
  unfolding hashed updated finalized
  one_shot_is_incremental = promises.one_shot_is_incremental member laws reads faithful p (begun p whole good) m

-- the default parameters are never refused
pub hashed_defaults : (m : List ℕ) → length m ≤ limit → hashed defaults m ≡ record { number = accepted; hash = hash_of (digest defaults m) }
unfolding hashed key_front
hashed_defaults m h = promises.hashed_within member laws reads faithful defaults (begun defaults good_defaults.clean.whole good_defaults.ranged) m (rw (zero-add (length m)) h)
