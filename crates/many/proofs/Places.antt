-- The result at a place is the one-shot digest, with that job's own parameters, of that job's own input, whatever the other jobs are.
-- Assumes nothing.
use mathlib.Core.Path.{◌≡◌, refl, sym, ap, ◌∙◌}
use mathlib.Core.Bool.{Bool, true, false, or-true, and-eq-true_iff}
use mathlib.Core.List.{List, []}
use Prim.Native.Nat.{ℕ, ◌+◌, ◌<◌, ◌≤◌}
use native.Mathlib.Omega.{arith}
use borrow.Author.Tests.{le-leb, eqb-true}
use lib.Dec.{leb, eqb}
use lib.ListN.{length, get_or, take, drop, length-take, length-drop}
use Rattle.definitions.specs.Family.{BLAKE2b}
use Rattle.definitions.specs.Hash.{hash}
use Rattle.refusals.specs.Numbers.{accepted, job_unfinished, limit, piece_ok}
use Rattle.refusals.proofs.Pieces.{inside}
use Rattle.hash.specs.Hash.{hash_of, no_hash}
use Rattle.blake2b.specs.Params.{asked, key_of, Clean}
use Rattle.blake2b.specs.Member.{hashed}
use Rattle.blake2b.specs.declared.params.Params.{Params}
use Rattle.blake2b.proofs.Rows.{digest_is_hash}
use Rattle.many_work.specs.Work.{finished_at_once, key_bytes, begun, run_on, work_hash}
use Rattle.many_work.proofs.Runs.{begun_range, begun_unfinished, run_digest, run_one_shot, at_once}
use Rattle.many.specs.Job.{placed, made_job, run_over, job_refusal, job_hash}
use Rattle.many.specs.Batch.{jobs_run}
use Rattle.many.specs.declared.placed.HashManyJob.{HashManyJob}
use Rattle.many.proofs.Jobs.{made, accepted_inside}
use Rattle.many.proofs.Outcomes.{own_place, own_accepted}

-- data over which a batch accepts a fresh job hold its range
range_held : (p : Params) (at n : ℕ) (d : List ℕ) → job_refusal (length d) (placed (begun p n) at n) ≡ accepted → length (take n (drop at d)) ≡ n
range_held p at n d e = split (finished_at_once p n) refl
  where
    split : (b : Bool) → finished_at_once p n ≡ b → length (take n (drop at d)) ≡ n
    split true f = let z = eqb-true n 0 ((and-eq-true_iff (leb 1 p.key_length) (eqb n 0)).0 f).1 in rw z
    split false f =
        let h = inside at n (length d) (accepted_inside (length d) (placed (begun p n) at n) e f) in
        simp (length-take, length-drop) (omega arith)

-- a job that was made with p for n bytes from the place `at` on; the data of its batch may be others than those it was made with
module _ (p : Params) (clean : Clean p) (first : List ℕ) (at n : ℕ) (ok : (made_job p first at n).number ≡ accepted) where
  -- over data that hold its range no batch refuses it
  pub made_accepted : (d : List ℕ) → piece_ok at n (length d) ≡ true → job_refusal (length d) (made_job p first at n).job ≡ accepted
  unfolding job_refusal
  made_accepted d fits = let m = made p first at n ok in rw (m.is, begun_range p m.good n m.within, fits, or-true)

  -- and so it is over those it was made with
  pub made_accepted_there : job_refusal (length first) (made_job p first at n).job ≡ accepted
  made_accepted_there = made_accepted first (made p first at n ok).fits

  -- before its batch it is not finished, and has no digest, where it has no key or some input
  pub made_unfinished : finished_at_once p n ≡ false → job_hash (made_job p first at n).job ≡ no_hash job_unfinished
  made_unfinished some = let m = made p first at n ok in ap job_hash m.is ∙ begun_unfinished p m.good n m.within some

  -- with a key and no input it is finished when it is made, and has the digest of no bytes
  pub keyed_empty : 0 < p.key_length → n ≡ 0 → ((made_job p first at n).job.work.finished ≡ true) × (job_hash (made_job p first at n).job ≡ hashed p [])
  keyed_empty k z =
      let m = made p first at n ok in
      let keyed = le-leb 1 p.key_length k in (
        ap (λ (j : HashManyJob). j.work.finished) m.is ∙ rw (keyed, z),
        ap job_hash m.is ∙ ap (λ (l : ℕ). work_hash (begun p l) l) z ∙ at_once p m.good clean.whole [] (rw z at m.within) (rw keyed),
      )

  -- in a batch: the answer is that of the one-shot call with its own parameters, of what its range holds in the batch's data
  module _ (most : ℕ) (jobs : List HashManyJob) (used : ℕ) (d : List ℕ) (accepts : (jobs_run most jobs used d).number ≡ accepted) (i : ℕ) (z : HashManyJob) (low : i < used) (there : i < length jobs)
      (own : get_or jobs i z ≡ (made_job p first at n).job) where
    abbrev input : List ℕ
    input = take n (drop at d)

    held : length input ≡ n
    held = range_held p at n d (ap (job_refusal (length d)) (sym (own ∙ (made p first at n ok).is)) ∙ own_accepted most jobs used d accepts i z low there)

    within : key_bytes p + length input ≤ limit
    within = rw held (made p first at n ok).within

    answer : job_hash (get_or (jobs_run most jobs used d).jobs i z) ≡ work_hash (run_on input (begun p (length input))) (length input)
    answer =
        ap job_hash (own_place most jobs used d accepts i z low there ∙ ap (run_over d) (own ∙ (made p first at n ok).is))
        ∙ ap (λ (l : ℕ). work_hash (run_on input (begun p l)) l) (sym held)

    pub one_shot_at_place : job_hash (get_or (jobs_run most jobs used d).jobs i z) ≡ hashed p input
    one_shot_at_place = answer ∙ run_one_shot p (made p first at n ok).good clean.whole input within

    -- so it is RFC 7693's digest
    pub digest_at_place : job_hash (get_or (jobs_run most jobs used d).jobs i z) ≡ record { number = accepted; hash = hash_of (hash BLAKE2b (asked p) p.last_node (key_of p) input) }
    digest_at_place =
        answer ∙ run_digest p (made p first at n ok).good clean.whole input within ∙ ap (λ (h : List ℕ). record { number = accepted; hash = hash_of h }) (digest_is_hash p clean input)
