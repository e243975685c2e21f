-- Two answers that meet a public promise are equal, for every public function. A weaker promise would be refused here.
-- Assumes nothing.
use mathlib.Core.Path.{◌≡◌, ap}
use seplogic.Ra.Ura.{Ura}
use base.Logic.{SProp}
use prog.Memory.{Memory}
use prog.Routine.{Routine}
use types.Logic.{Logic}
use contract.Monad.{Fun}
use Rattle.std.specs.Prelude.{Result}
use Rattle.walks.proofs.Settled.{facts_settle, Settles}
use Rattle.refusals.specs.declared.refusal.Refusal.{Refusal}
use Rattle.refusals.proofs.Settled.{settled}
use Rattle.hash.proofs.Unique.{unique, hash_settled}
use Rattle.many_work.specs.Work.{zero_work}
use Rattle.many_held.specs.Answers.{JobAnswer, as_job_answer}
use Rattle.many_held.specs.HeldJob.{holding}
use Rattle.many_held.specs.declared.held_job.HashManyJob.{HashManyJob}
use Rattle.many_held.specs.contracts.held_job.HashManyJob.new as job_new
use Rattle.many_held.specs.contracts.held_job.HashManyJob.run as job_run
use Rattle.many_held.specs.contracts.held_job.HashManyJob.to_hash as job_to_hash
use Rattle.many_held.specs.contracts.held_job.hash_through_job as hash_through_job

-- a Result that is read as one answer
job_settled : (z : HashManyJob) {r q : Result HashManyJob Refusal} → as_job_answer z r ≡ as_job_answer z q → r ≡ q
job_settled z e = settled z (ap (λ (a : JobAnswer). a.number) e) (ap (λ (a : JobAnswer). a.job) e)

module _ {M : Type 1} {𝓤 : Ura M} (𝓛 : Logic 𝓤) (mem : Memory → SProp 𝓤) (run : Routine → Fun 𝓤) where
  pub job_new_unique : Settles 𝓤 job_new.ended (job_new.clauses 𝓛 mem run)
  job_new_unique κs args g r q exit = facts_settle 𝓤 (λ e f. job_settled (holding zero_work args.1.0) (unique e f))

  pub job_run_unique : Settles 𝓤 job_run.ended (job_run.clauses 𝓛 mem run)
  job_run_unique κs args g r q exit = facts_settle 𝓤 (λ e f. job_settled args.0 (unique e f))

  pub job_to_hash_unique : Settles 𝓤 job_to_hash.ended (job_to_hash.clauses 𝓛 mem run)
  job_to_hash_unique κs args g r q exit = facts_settle 𝓤 (λ e f. hash_settled (unique e f))

  pub hash_through_job_unique : Settles 𝓤 hash_through_job.ended (hash_through_job.clauses 𝓛 mem run)
  hash_through_job_unique κs args g r q exit = facts_settle 𝓤 (λ e f. hash_settled (unique e f))
