-- Work that was begun, once it ran: its digest is the one-shot digest, with its own parameters, of the input it ran on.
-- Assumes nothing.
use mathlib.Core.Path.{◌≡◌, refl, sym, ap, subst, ◌∙◌}
use mathlib.Core.Bool.{Bool, true, false, cond, ◌&&◌}
use mathlib.Core.List.{List, [], ◌∷◌, ◌++◌, append-nil}
use Prim.Native.Nat.{ℕ, ◌+◌, ◌≤◌}
use native.Mathlib.Omega.{arith}
use borrow.Author.Tests.{le-leb, ne_eqb}
use lib.Dec.{leb, eqb}
use lib.ListN.{length, take}
use Rattle.definitions.specs.Family.{BLAKE2b}
use Rattle.definitions.specs.Hash.{start, state_bytes}
use Rattle.laws_blocks.specs.Blocks.{on_bytes, through_blocks}
use Rattle.laws_blocks.proofs.Calls.{untruncated_through}
use Rattle.laws_blocks.proofs.Fronts.{through_behind}
use Rattle.refusals.specs.Numbers.{accepted, job_unfinished, bad_record, limit}
use Rattle.hash.specs.Hash.{hash_of, no_hash}
use Rattle.blake2b_state.specs.State.{key_front}
use Rattle.blake2b_state.specs.Sizes.{blockbytes}
use Rattle.blake2b.specs.Params.{in_range, asked, front}
use Rattle.blake2b.specs.Member.{digest, hashed}
use Rattle.blake2b.specs.declared.params.Params.{Params}
use Rattle.blake2b.proofs.Members.{digest_asked, length_front}
use Rattle.many_work.specs.Work.{zero_work, work_in_range, finished_at_once, key_bytes, first_words, begun, ran, run_on, work_hash}
use Rattle.many_work.specs.declared.work.Work.{Work}
use Rattle.many_work.proofs.Works.{run_finished, run_unfinished}

module _ (m : List ℕ) (w : Work) where
  -- what holds of finished work, and of work that ran, holds after a call that runs it
  by_finished : (P : Work → Type 0) → (w.finished ≡ true → P w) → (w.finished ≡ false → P (ran m w)) → P (run_on m w)
  by_finished P was is = split w.finished refl
    where
      split : (b : Bool) → w.finished ≡ b → P (run_on m w)
      split true e = subst P (run_finished m w e) (was e)
      split false e = subst P (run_unfinished m w e) (is e)

  pub run_finishes : (run_on m w).finished ≡ true
  run_finishes = by_finished (λ k. k.finished ≡ true) (λ e. e) (λ e. refl)

  ran_range : (n : ℕ) → work_in_range (ran m w) n ≡ work_in_range w n
  unfolding work_in_range
  ran_range n = refl

  pub run_keeps_range : (n : ℕ) → work_in_range (run_on m w) n ≡ work_in_range w n
  run_keeps_range n = by_finished (λ k. work_in_range k n ≡ work_in_range w n) (λ e. refl) (λ e. ran_range n)

  -- the words that its digest is cut from
  abbrev last_words : List ℕ
  last_words = cond w.finished w.words (through_blocks BLAKE2b blockbytes w.words w.count true w.last_node m)

  run_hash : (n : ℕ) → work_in_range w n ≡ true → work_hash (run_on m w) n ≡ record { number = accepted; hash = hash_of (take w.hash_length (state_bytes BLAKE2b last_words)) }
  run_hash n good =
      by_finished (λ k. work_hash k n ≡ record { number = accepted; hash = hash_of (take w.hash_length (state_bytes BLAKE2b last_words)) })
      (λ e. unfold work_hash in rw (good, e)) (λ e. unfold work_hash in rw (ran_range n, good, e))

-- running twice has no effect, whatever the inputs
pub run_again : (m n : List ℕ) (w : Work) → run_on n (run_on m w) ≡ run_on m w
run_again m n w = sym (run_finished n (run_on m w) (run_finishes m w))

-- the work of a refusal's zero job is out of range, with any input
pub zero_out_of_range : (n : ℕ) → (work_in_range zero_work n ≡ false) × (work_hash zero_work n ≡ no_hash bad_record)
unfolding work_in_range work_hash
zero_out_of_range n = (refl, refl)

-- the words after a run: with a key that went first, without one, and with one and no input
words_after : (keyed : Bool) (w b : List ℕ) (node : Bool) (m : List ℕ) → length b ≡ blockbytes
    → let last : Bool = keyed && eqb (length m) 0 in
    let v : List ℕ = cond keyed (through_blocks BLAKE2b blockbytes w 0 last (last && node) b) w in
    cond last v (through_blocks BLAKE2b blockbytes v (cond keyed blockbytes 0) true node m) ≡ through_blocks BLAKE2b blockbytes w 0 true node (cond keyed b [] ++ m)
words_after false w b node m l = refl
words_after true w b node [] l = ap (through_blocks BLAKE2b blockbytes w 0 true node) (sym (append-nil b))
words_after true w b node (x ∷ m) l =
    rw (ne_eqb (length (x ∷ m)) 0 (λ e. omega arith)) (through_behind blockbytes (on_bytes BLAKE2b) (omega arith) w 0 b l true node (x ∷ m) (omega arith))

module _ (p : Params) (good : in_range p ≡ true) where
  pub begun_range : (n : ℕ) → key_bytes p + n ≤ limit → work_in_range (begun p n) n ≡ true
  unfolding work_in_range
  begun_range n within = rw (digest_asked p good, le-leb (key_bytes p + n) limit within)

  -- before its run it has no digest, where it has no key or some input
  pub begun_unfinished : (n : ℕ) → key_bytes p + n ≤ limit → finished_at_once p n ≡ false → work_hash (begun p n) n ≡ no_hash job_unfinished
  unfolding work_hash
  begun_unfinished n within some = rw (begun_range n within, some)

  module _ (whole : length p.key_block ≡ blockbytes) (m : List ℕ) (within : key_bytes p + length m ≤ limit) where
    begun_words : last_words m (begun p (length m)) ≡ through_blocks BLAKE2b blockbytes (start BLAKE2b (asked p)) 0 true p.last_node (front p ++ m)
    unfolding first_words key_bytes key_front
    begun_words = words_after (leb 1 p.key_length) (start BLAKE2b (asked p)) p.key_block p.last_node m whole

    pub run_digest : work_hash (run_on m (begun p (length m))) (length m) ≡ record { number = accepted; hash = hash_of (digest p m) }
    run_digest =
        run_hash m (begun p (length m)) (length m) (begun_range (length m) within)
        ∙ ap (λ (h : List ℕ). record { number = accepted; hash = hash_of (take p.hash_length h) })
        (ap (state_bytes BLAKE2b) begun_words ∙ sym (untruncated_through BLAKE2b (omega arith) (asked p) p.last_node (front p ++ m)))

    -- the one-shot call answers the same
    one_shot : hashed p m ≡ record { number = accepted; hash = hash_of (digest p m) }
    unfolding hashed key_bytes
    one_shot =
        let few : length (front p) + length m ≤ limit = rw (length_front p whole) within in
        rw (good, le-leb (length (front p) + length m) limit few)

    pub run_one_shot : work_hash (run_on m (begun p (length m))) (length m) ≡ hashed p m
    run_one_shot = run_digest ∙ sym one_shot

    -- finished at once, it has its digest without a run
    pub at_once : finished_at_once p (length m) ≡ true → work_hash (begun p (length m)) (length m) ≡ hashed p m
    at_once f = ap (λ (w : Work). work_hash w (length m)) (run_finished m (begun p (length m)) f) ∙ run_one_shot
