-- The hash of a whole message is what a state answers that took it: with a key through the state, without one straight from the leaves.
-- Assumes nothing.
use mathlib.Core.Path.{◌≡◌, refl, ap, ◌∙◌}
use mathlib.Core.Bool.{Bool, true, false}
use mathlib.Core.List.{List, map}
use Prim.Native.Nat.{ℕ, ◌+◌, ◌≤◌}
use native.Mathlib.Nat.{zero-add}
use lib.Dec.{leb}
use lib.ListN.{length, take}
use Rattle.definitions.specs.Family.{BLAKE2b}
use Rattle.laws_states.specs.Deal.{finished}
use Rattle.laws_states.specs.Leaves.{rooted, leaf_starts, root_start}
use Rattle.refusals.specs.Numbers.{accepted, total_over, limit}
use Rattle.members.proofs.Cuts.{range_fresh}
use Rattle.members.proofs.Promises as promises
use Rattle.hash.specs.Hash.{hash_of, no_hash, made_from}
use Rattle.hash.specs.Answers.{HashAnswer}
use Rattle.laws_states.proofs.Trees.{length_rooted}
use Rattle.hash.proofs.Digests.{made_hash}
use Rattle.blake2bp_leaves.specs.Sizes.{blockbytes, degree}
use Rattle.blake2bp_leaves.specs.Leaves.{leaf_of, words_of, on_leaf}
use Rattle.blake2bp_leaves.specs.declared.leaves.Leaf.{Leaf}
use Rattle.blake2bp.specs.Params.{defaults}
use Rattle.blake2bp.specs.State.{key_bytes, total, fresh, updated, finalized, digest, hashed, reads, member}
use Rattle.blake2bp.specs.declared.params.Params.{Params}
use Rattle.blake2bp.specs.Answers.{StateAnswer}
use Rattle.blake2bp.proofs.Cleaned.{Good, good_defaults}
use Rattle.blake2bp.proofs.Fresh.{front_plain, begun}
use Rattle.blake2bp.proofs.Setters.{digest_asked, key_short}
use Rattle.blake2bp.proofs.States.{laws, faithful}

module _ (p : Params) (good : Good p) (m : List ℕ) where
  -- through a state: a refusal of the update is that of the hash
  module _ {u : StateAnswer} (e : u ≡ updated (fresh p) m) where
    -- a state in range is refused for its total alone
    total_refused : (u.number ≡ accepted → ⊥) → u.number ≡ total_over
    unfolding updated
    total_refused f = split (leb (total (fresh p) + length m) limit) refl
      where
        split : (b : Bool) → leb (total (fresh p) + length m) limit ≡ b → u.number ≡ total_over
        split true h = absurd (f (ap (λ (a : StateAnswer). a.number) e ∙ rw (range_fresh member laws p (begun p good), h)))
        split false h = ap (λ (a : StateAnswer). a.number) e ∙ rw (range_fresh member laws p (begun p good), h)

    pub hashed_past : (u.number ≡ accepted → ⊥) → no_hash u.number ≡ hashed p m
    unfolding hashed updated
    hashed_past f = promises.hashed_past member laws reads faithful p (begun p good) m e f (ap no_hash (total_refused f))

    pub hashed_through : {r : HashAnswer} → u.number ≡ accepted → r ≡ finalized u.state → r ≡ hashed p m
    unfolding hashed updated finalized
    hashed_through = promises.hashed_through member laws reads faithful p (begun p good) m e

  -- and straight from the leaves, where there is no key
  pub hashed_straight : p.key_length ≤ 0 → length m ≤ limit → {ls es : List Leaf} {w : List ℕ} {r : HashAnswer}
      → ls ≡ map leaf_of (leaf_starts BLAKE2b degree p.hash_length p.key_length) → w ≡ root_start BLAKE2b degree p.hash_length p.key_length
      → es ≡ finished blockbytes on_leaf degree ls 0 m → r ≡ made_from (rooted BLAKE2b w (map words_of es)) p.hash_length → r ≡ hashed p m
  unfolding hashed
  hashed_straight none few {ls} {es} {w} leaves root ends e =
      let d = p.hash_length in
      let closed = ends ∙ ap (λ (l : List Leaf). finished blockbytes on_leaf degree l 0 m) leaves in
      promises.hashed_straight member laws reads faithful p (begun p good) m (front_plain p good.whole (key_short p good.ranged) none) few
      (made_hash d (rooted BLAKE2b w (map words_of es)) (digest_asked p good.ranged) (length_rooted BLAKE2b w (map words_of es)) e
      ∙ (λ i. reads.made (take d (rooted BLAKE2b (root i) (map words_of (closed i))))))

  -- the one-shot answer is that of a state that took the message, with a key or without
  pub one_shot_is_incremental : key_bytes p + length m ≤ limit → hashed p m ≡ finalized (updated (fresh p) m).state
  unfolding hashed updated finalized
  one_shot_is_incremental = promises.one_shot_is_incremental member laws reads faithful p (begun p good) m

-- the default parameters are never refused
pub hashed_defaults : (m : List ℕ) → length m ≤ limit → hashed defaults m ≡ record { number = accepted; hash = hash_of (digest defaults m) }
unfolding hashed
hashed_defaults m h = promises.hashed_within member laws reads faithful defaults (begun defaults good_defaults) m (rw (zero-add (length m)) h)
