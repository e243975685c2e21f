-- What a call on a job that holds its input does to its work: 14 first, then the call's own refusal.
-- Assumes nothing.
use Rattle.std.specs.Prelude.{cond, List, [], ◌∷◌, ℕ, ◌+◌, leb, eqb, length}
use Rattle.refusals.specs.Numbers.{accepted, total_over, bad_record, limit}
use Rattle.refusals.specs.Tests.{Test, test, tested}
use Rattle.hash.specs.Hash.{no_hash}
use Rattle.blake2b.specs.Params.{in_range}
use Rattle.hash.specs.Answers.{HashAnswer}
use Rattle.blake2b.specs.declared.params.Params.{Params}
use Rattle.many_work.specs.Work.{zero_work, work_in_range, key_bytes, begun, run_on}
use Rattle.many_work.specs.declared.work.Work.{Work}
use Rattle.many_held.specs.Answers.{WorkAnswer}

abbrev pub no_work : ℕ → WorkAnswer
no_work refusal = record { number = refusal; work = zero_work }

-- making a job of an input: 14, then 6
abbrev pub make_tests : Params → List ℕ → List Test
make_tests p m = test (in_range p) bad_record ∷ test (leb (key_bytes p + length m) limit) total_over ∷ []

unfoldable pub made_work : Params → List ℕ → WorkAnswer
made_work p m = tested (make_tests p m) (record { number = accepted; work = begun p (length m) }) no_work

-- running it: 14 leaves it, and a finished one is not run again
unfoldable pub ran_work : Work → List ℕ → WorkAnswer
ran_work w m =
    tested (test (work_in_range w (length m)) bad_record ∷ []) (record { number = accepted; work = run_on m w }) (λ n. record { number = n; work = w })

-- an answer, unless something was refused before
unfoldable pub unless_refused : ℕ → HashAnswer → HashAnswer
unless_refused number a = cond (eqb number accepted) a (no_hash number)
