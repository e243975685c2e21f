-- Two answers that meet a public promise are equal, for every public function. A weaker promise would be refused here.
-- Assumes nothing.
use mathlib.Core.Path.{ap}
use Rattle.refusals.proofs.Settled.{settled, batch_settled}
use Rattle.hash.proofs.Unique.{Unique, unique, hash_settled}
use Rattle.many.specs.Answers.{JobAnswer, JobsAnswer}
use Rattle.many.specs.Job.{zero_job}
use Rattle.many.proofs.placed.HashManyJob.zero.Reads as job_zero
use Rattle.many.proofs.placed.HashManyJob.new.Reads as job_new
use Rattle.many.proofs.placed.HashManyJob.to_hash.Reads as job_to_hash
use Rattle.many.proofs.batch.hash_many.Reads as hash_many

pub job_zero_unique : Unique job_zero.Post
job_zero_unique κs args r q exit e f = unique e f

pub job_new_unique : Unique job_new.Post
job_new_unique κs args r q exit e f =
    let same = unique e f in
    settled zero_job (ap (λ (a : JobAnswer). a.number) same) (ap (λ (a : JobAnswer). a.job) same)

pub job_to_hash_unique : Unique job_to_hash.Post
job_to_hash_unique κs args r q exit e f = hash_settled (unique e f)

pub hash_many_unique : Unique hash_many.Post
hash_many_unique κs args r q exit e f =
    let same = unique e f in
    batch_settled args.0 (ap (λ (a : JobsAnswer). a.number) same) (ap (λ (a : JobsAnswer). a.index) same) (ap (λ (a : JobsAnswer). a.jobs) same)
