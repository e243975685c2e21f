-- Hash jobs over a lent buffer: where the input of a job's work stands, what refuses one, what a batch makes of it, and its digest.
-- Assumes nothing.
use Rattle.std.specs.Prelude.{Bool, ◌||◌, List, [], ◌∷◌, ℕ, ◌+◌, leb, length, take, drop}
use Rattle.refusals.specs.Numbers.{accepted, total_over, piece_outside, bad_record, limit, piece_ok}
use Rattle.refusals.specs.Tests.{Test, test, tested, first}
use Rattle.blake2b.specs.Params.{in_range}
use Rattle.hash.specs.Answers.{HashAnswer}
use Rattle.blake2b.specs.declared.params.Params.{Params}
use Rattle.many_work.specs.Work.{zero_work, work_in_range, key_bytes, begun, run_on, work_hash}
use Rattle.many_work.specs.declared.work.Work.{Work}
use Rattle.many.specs.declared.placed.HashManyJob.{HashManyJob}
use Rattle.many.specs.Answers.{JobAnswer}

-- the job of some work for n bytes from a place on
abbrev pub placed : Work → ℕ → ℕ → HashManyJob
placed w at n = record { work = w; start = at; length = n }

-- what a refusal answers in place of a job
abbrev pub zero_job : HashManyJob
zero_job = placed zero_work 0 0

abbrev pub no_job : ℕ → JobAnswer
no_job refusal = record { number = refusal; job = zero_job }

-- the range of refusal 14
abbrev pub job_in_range : HashManyJob → Bool
job_in_range j = work_in_range j.work j.length

-- making one: 14, then 9, then 6
abbrev pub make_tests : Params → List ℕ → ℕ → ℕ → List Test
make_tests p d at n = test (in_range p) bad_record ∷ test (piece_ok at n (length d)) piece_outside ∷ test (leb (key_bytes p + n) limit) total_over ∷ []

unfoldable pub made_job : Params → List ℕ → ℕ → ℕ → JobAnswer
made_job p d at n = tested (make_tests p d at n) (record { number = accepted; job = placed (begun p n) at n }) no_job

-- a job's input: what its range holds in the data
abbrev pub input_of : List ℕ → HashManyJob → List ℕ
input_of d j = take j.length (drop j.start d)

-- the job after a batch over the data: a finished one is not run again
abbrev pub run_over : List ℕ → HashManyJob → HashManyJob
run_over d j = placed (run_on (input_of d j) j.work) j.start j.length

-- what a batch over n bytes of data refuses a job with: 14, then 9, of which a finished job is free
unfoldable pub job_refusal : ℕ → HashManyJob → ℕ
job_refusal n j = first (test (job_in_range j) bad_record ∷ test (j.work.finished || piece_ok j.start j.length n) piece_outside ∷ [])

-- the digest: 14, then 12
abbrev pub job_hash : HashManyJob → HashAnswer
job_hash j = work_hash j.work j.length
