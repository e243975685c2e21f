-- Two answers that meet a public promise are equal, for both public functions, of the contract itself. A weaker promise would be refused here.
-- Assumes nothing.
use seplogic.Ra.Ura.{Ura}
use base.Logic.{SProp}
use prog.Memory.{Memory}
use prog.Routine.{Routine}
use types.Logic.{Logic}
use contract.Monad.{Fun}
use Rattle.hash.proofs.Unique.{Unique, unique}
use Rattle.walks.proofs.Settled.{facts_settle, Settles}
use Rattle.bank.proofs.Unique.{records_settled}
use Rattle.bank_lent.specs.contracts.update_many as update_many
use Rattle.bank_lent.proofs.update_many_of_array.Reads as update_many_of_array

-- its parameters are no plain data, so its promise is read in the program logic
pub update_many_unique : {M : Type 1} {𝓤 : Ura M} (𝓛 : Logic 𝓤) (mem : Memory → SProp 𝓤) (run : Routine → Fun 𝓤) → Settles 𝓤 update_many.ended (update_many.clauses 𝓛 mem run)
update_many_unique {𝓤 = 𝓤} 𝓛 mem run κs args g r q exit = facts_settle 𝓤 (λ e f. records_settled args.0 (unique e f))

pub update_many_of_array_unique : Unique update_many_of_array.Post
update_many_of_array_unique κs args r q exit e f = records_settled _ (unique e f)
