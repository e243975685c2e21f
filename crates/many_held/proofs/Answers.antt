-- What jobs that hold their input answer: a job that was made and run has the one-shot digest of the slice that it holds, and running it again changes nothing.
-- Assumes nothing.
use mathlib.Core.Path.{◌≡◌, refl, sym, ap, ◌∙◌}
use mathlib.Core.Bool.{Bool, true, false}
use mathlib.Core.List.{List, []}
use Prim.Native.Nat.{ℕ, ◌+◌, ◌<◌, ◌≤◌}
use native.Mathlib.Omega.{arith}
use borrow.Author.Tests.{le-leb, leb-true, ne_eqb}
use lib.Dec.{leb}
use lib.ListN.{length}
use denote.Ref.{Bor}
use Rattle.definitions.specs.Family.{BLAKE2b}
use Rattle.definitions.specs.Hash.{hash}
use Rattle.refusals.specs.Numbers.{accepted, total_over, job_unfinished, bad_record, limit}
use Rattle.refusals.specs.Answers.{number_of}
use Rattle.refusals.specs.declared.refusal.Refusal.{Refusal}
use Rattle.refusals.proofs.Settled.{never_accepted}
use Rattle.hash.specs.Hash.{hash_of, no_hash}
use Rattle.hash.specs.Answers.{HashAnswer}
use Rattle.blake2b_state.specs.Sizes.{blockbytes}
use Rattle.blake2b.specs.Params.{in_range, asked, key_of, Clean}
use Rattle.blake2b.specs.Member.{hashed}
use Rattle.blake2b.specs.declared.params.Params.{Params}
use Rattle.blake2b.proofs.Members.{length_front}
use Rattle.blake2b.proofs.Rows.{digest_is_hash}
use Rattle.many_work.specs.Work.{zero_work, work_in_range, key_bytes, finished_at_once, begun, run_on, work_hash}
use Rattle.many_work.specs.declared.work.Work.{Work}
use Rattle.many_work.proofs.Runs.{begun_range, begun_unfinished, run_again, run_keeps_range, run_digest, run_one_shot, at_once, zero_out_of_range}
use Rattle.many_held.specs.Steps.{no_work, made_work, ran_work, unless_refused}
use Rattle.many_held.specs.HeldJob.{work_of, answered, made_job, ran_job, job_hash}
use Rattle.many_held.specs.Answers.{WorkAnswer, JobAnswer}
use Rattle.many_held.specs.declared.held_job.HashManyJob.{HashManyJob}

-- a digest that is asked, unless something was refused before
module _ (number : ℕ) (a : HashAnswer) where
  refused_before : (number ≡ accepted → ⊥) → unless_refused number a ≡ no_hash number
  unfolding unless_refused
  refused_before e = rw (ne_eqb number accepted e)

-- running
module _ (w : Work) (m : List ℕ) where
  ran_within : work_in_range w (length m) ≡ true → ran_work w m ≡ record { number = accepted; work = run_on m w }
  unfolding ran_work
  ran_within e = rw e

  ran_outside : work_in_range w (length m) ≡ false → ran_work w m ≡ record { number = bad_record; work = w }
  unfolding ran_work
  ran_outside e = rw e

ran_twice : (w : Work) (m : List ℕ) → ran_work (ran_work w m).work m ≡ ran_work w m
unfolding ran_work
ran_twice w m = grind (arith, run_again, run_keeps_range)

-- running a job again changes nothing: it answers the same number and the same job, whatever the record
pub twice : (j : HashManyJob) → ran_job (ran_job j).job ≡ ran_job j
twice j = ap (λ (a : WorkAnswer). answered a j.input) (ran_twice (work_of j) j.input.now)

-- a job holds the caller's input, from its making on
pub input_kept : (p : Params) (x : Bor (List ℕ)) (j : HashManyJob) → ((made_job p x).job.input ≡ x) × ((ran_job j).job.input ≡ j.input)
input_kept p x j = (refl, refl)

-- making, with a key block of its full size, as every record of parameters has it
module _ (p : Params) (whole : length p.key_block ≡ blockbytes) (m : List ℕ) where
  abbrev fresh : WorkAnswer
  fresh = record { number = accepted; work = begun p (length m) }

  -- what holds of fresh work, and of each refusal that the one-shot call gives too, holds of what is made
  by_made : (P : WorkAnswer → Type 0) → (in_range p ≡ true → key_bytes p + length m ≤ limit → P fresh) → ((refusal : ℕ) → (refusal ≡ accepted → ⊥) → hashed p m ≡ no_hash refusal → P (no_work refusal))
      → P (made_work p m)
  by_made P taken refused = split (in_range p) (leb (key_bytes p + length m) limit) refl refl
    where
      split : (a b : Bool) → in_range p ≡ a → leb (key_bytes p + length m) limit ≡ b → P (made_work p m)
      split true true e f = unfold made_work in rw (e, f) (taken e (leb-true (key_bytes p + length m) limit f))
      split true false e f = unfold made_work in rw (e, f) (refused total_over (λ z. omega arith) (unfold hashed key_bytes in rw (e, length_front p whole, f)))
      split false b e f = unfold made_work in rw e (refused bad_record (λ z. omega arith) (unfold hashed in rw e))

  -- the job of a refusal is refused with 14 by every call
  refused_work : ((made_work p m).number ≡ accepted → ⊥) → ((ran_work (made_work p m).work m).number ≡ bad_record) × (work_hash (made_work p m).work (length m) ≡ no_hash bad_record)
  refused_work =
      by_made (λ a. (a.number ≡ accepted → ⊥) → ((ran_work a.work m).number ≡ bad_record) × (work_hash a.work (length m) ≡ no_hash bad_record)) (λ e f h. absurd (h refl))
      (λ r bad g h. let z = zero_out_of_range (length m) in (ap (λ (a : WorkAnswer). a.number) (ran_outside zero_work m z.0), z.1))

  -- made, run and asked, unless the making was refused: what the one-shot call answers
  pub through : unless_refused (made_work p m).number (work_hash (ran_work (made_work p m).work m).work (length m)) ≡ hashed p m
  unfolding unless_refused
  through =
      by_made (λ a. unless_refused a.number (work_hash (ran_work a.work m).work (length m)) ≡ hashed p m)
      (λ e f.
      let run = ran_within (begun p (length m)) m (begun_range p e (length m) f) in
      ap (λ (a : WorkAnswer). work_hash a.work (length m)) run ∙ run_one_shot p e whole m f)
      (λ r bad g. refused_before r _ bad ∙ sym g)

  -- what the making of a job means that was accepted
  record Made (a : WorkAnswer) : Type 0 where
    pub good : in_range p ≡ true
    pub within : key_bytes p + length m ≤ limit
    pub is : a ≡ fresh

  made : (made_work p m).number ≡ accepted → Made (made_work p m)
  made = by_made (λ a. a.number ≡ accepted → Made a) (λ e f h. record { good = e; within = f; is = refl }) (λ r bad g h. absurd (bad h))

module _ (p : Params) (whole : length p.key_block ≡ blockbytes) (x : Bor (List ℕ)) where
  pub refused_made : ((made_job p x).number ≡ accepted → ⊥) → ((ran_job (made_job p x).job).number ≡ bad_record) × (job_hash (made_job p x).job ≡ no_hash bad_record)
  refused_made = refused_work p whole x.now

  -- a job that was made of the parameters p and the slice x
  module _ (ok : (made_job p x).number ≡ accepted) where
    abbrev m : List ℕ
    m = x.now

    abbrev was : Made p whole m (made_work p m)
    was = made p whole m ok

    run_made : ran_work (made_work p m).work m ≡ record { number = accepted; work = run_on m (begun p (length m)) }
    run_made = rw was.is (ran_within (begun p (length m)) m (begun_range p was.good (length m) was.within))

    -- its run is accepted
    pub run_accepted : (ran_job (made_job p x).job).number ≡ accepted
    run_accepted = ap (λ (a : WorkAnswer). a.number) run_made

    -- and then its digest is the one-shot answer for the slice
    pub digest_of_slice : job_hash (ran_job (made_job p x).job).job ≡ hashed p m
    digest_of_slice = ap (λ (a : WorkAnswer). work_hash a.work (length m)) run_made ∙ run_one_shot p was.good whole m was.within

    -- so it is RFC 7693's digest
    pub digest_by_rfc : Clean p → job_hash (ran_job (made_job p x).job).job ≡ record { number = accepted; hash = hash_of (hash BLAKE2b (asked p) p.last_node (key_of p) m) }
    digest_by_rfc clean =
        ap (λ (a : WorkAnswer). work_hash a.work (length m)) run_made
        ∙ run_digest p was.good whole m was.within
        ∙ ap (λ (h : List ℕ). record { number = accepted; hash = hash_of h }) (digest_is_hash p clean m)

    -- before its run it is refused with 12, where it has no key or some input
    pub made_unfinished : finished_at_once p (length m) ≡ false → job_hash (made_job p x).job ≡ no_hash job_unfinished
    made_unfinished some = rw was.is (begun_unfinished p was.good (length m) was.within some)

    -- with a key and no input it is finished when it is made, and has its digest without a run
    pub keyed_empty : 0 < p.key_length → m ≡ [] → ((made_job p x).job.work.finished ≡ true) × (job_hash (made_job p x).job ≡ hashed p m)
    keyed_empty k z =
        let keyed = le-leb 1 p.key_length k in
        let f : finished_at_once p (length m) ≡ true = rw (keyed, z) in (
          ap (λ (a : WorkAnswer). a.work.finished) was.is ∙ f,
          ap (λ (a : WorkAnswer). work_hash a.work (length m)) was.is ∙ at_once p was.good whole m was.within f,
        )

  -- as the code has it: a making that is refused is the one-shot refusal, and else the run is accepted and its digest is the one-shot answer
  pub not_made : (e : Refusal) {z : HashManyJob} → record { number = number_of e; job = z } ≡ made_job p x → no_hash (number_of e) ≡ hashed p x.now
  not_made e f =
      let asked = work_hash (ran_work (made_work p x.now).work x.now).work (length x.now) in
      sym (refused_before (number_of e) asked (never_accepted e))
      ∙ ap (λ (a : JobAnswer). unless_refused a.number asked) f
      ∙ through p whole x.now

  module _ {j : HashManyJob} (m : record { number = accepted; job = j } ≡ made_job p x) where
    pub run_not_refused : (e : Refusal) {k : HashManyJob} → record { number = number_of e; job = k } ≡ ran_job j → ⊥
    run_not_refused e f =
        never_accepted e
        (ap (λ (a : JobAnswer). a.number) f ∙ ap (λ (a : JobAnswer). (ran_job a.job).number) m ∙ run_accepted (ap (λ (a : JobAnswer). a.number) (sym m)))

    pub digest_through : {k : HashManyJob} → record { number = accepted; job = k } ≡ ran_job j → job_hash k ≡ hashed p x.now
    digest_through f =
        ap (λ (a : JobAnswer). job_hash a.job) f
        ∙ ap (λ (a : JobAnswer). job_hash (ran_job a.job).job) m
        ∙ digest_of_slice (ap (λ (a : JobAnswer). a.number) (sym m))
