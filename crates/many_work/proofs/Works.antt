-- The laws of a job's work: its range, its run and the digest of finished work.
-- Assumes nothing.
use mathlib.Core.Path.{◌≡◌, ap, ◌∙◌}
use mathlib.Core.Bool.{Bool, true, false, cond}
use mathlib.Core.List.{List}
use Prim.Native.Nat.{ℕ, ◌+◌, ◌-◌, ◌≤◌}
use native.Mathlib.Omega.{arith}
use Rattle.std.proofs.lemmas.Bool.Decides.{nat_tests}
use lib.Dec.{leb}
use lib.ListN.{length, take}
use Rattle.definitions.specs.Family.{BLAKE2b}
use Rattle.definitions.specs.Hash.{state_bytes}
use Rattle.refusals.specs.Numbers.{accepted, limit}
use Rattle.hash.specs.Hash.{is_digest_length, hash_of, made_from}
use Rattle.hash.specs.Answers.{HashAnswer}
use Rattle.hash.proofs.Digests.{made_hash}
use Rattle.blake2b_state.specs.Sizes.{blockbytes, outbytes}
use Rattle.blake2b.specs.declared.params.Params.{Params}
use Rattle.many_work.specs.Work.{work_in_range, key_bytes, ran, run_on, work_hash}
use Rattle.many_work.specs.declared.work.Work.{Work}

-- the test of a total by subtraction
pub room_left : (t n : ℕ) → t ≤ limit → leb n (limit - t) ≡ leb (t + n) limit
room_left t n h = grind (arith, nat_tests)

-- what a key adds is within the limit
key_bytes_short : (p : Params) → key_bytes p ≤ limit
unfolding key_bytes limit
key_bytes_short p = split (leb 1 p.key_length)
  where
    split : (b : Bool) → cond b blockbytes 0 ≤ limit
    split true = omega arith
    split false = omega arith

pub room_with_key : (p : Params) (n : ℕ) {k : ℕ} → k ≡ key_bytes p → leb n (limit - k) ≡ leb (key_bytes p + n) limit
room_with_key p n e = rw e (room_left (key_bytes p) n (key_bytes_short p))

-- what work in range keeps
pub in_range_lem : (w : Work) (n : ℕ) → work_in_range w n ≡ true → (is_digest_length w.hash_length ≡ true) × (w.count + n ≤ limit)
unfolding work_in_range
in_range_lem w n e = grind (arith, nat_tests)

-- a run
module _ (m : List ℕ) (w : Work) where
  pub run_finished : w.finished ≡ true → w ≡ run_on m w
  unfolding run_on
  run_finished e = rw e

  pub run_unfinished : w.finished ≡ false → ran m w ≡ run_on m w
  unfolding run_on
  run_unfinished e = rw e

-- the digest of finished work is cut from the bytes of its words
pub hash_finished : (w : Work) (n : ℕ) → work_in_range w n ≡ true → w.finished ≡ true → {d : List ℕ} → length d ≡ outbytes → d ≡ state_bytes BLAKE2b w.words
    → {r : HashAnswer} → r ≡ made_from d w.hash_length → r ≡ work_hash w n
unfolding work_hash
hash_finished w n good done {d} l b f =
    rw (good, done)
    (made_hash w.hash_length d (in_range_lem w n good).0 l f ∙ ap (λ (x : List ℕ). record { number = accepted; hash = hash_of (take w.hash_length x) }) b)
