-- The work of a job: the record, its range, what it starts as, what a run on an input makes of it, and its digest.
-- Assumes nothing.
use Rattle.std.specs.Prelude.{Bool, true, false, cond, ◌&&◌, List, [], ◌∷◌, ℕ, ◌+◌, leb, eqb, take}
use Rattle.definitions.specs.Family.{BLAKE2b}
use Rattle.definitions.specs.Hash.{start, state_bytes}
use Rattle.laws_words.specs.Bytes.{zeros}
use Rattle.laws_blocks.specs.Blocks.{through_blocks}
use Rattle.refusals.specs.Numbers.{accepted, job_unfinished, bad_record, limit}
use Rattle.refusals.specs.Tests.{Test, test, tested}
use Rattle.hash.specs.Hash.{is_digest_length, hash_of, no_hash}
use Rattle.blake2b_state.specs.Sizes.{blockbytes}
use Rattle.blake2b.specs.Params.{asked}
use Rattle.hash.specs.Answers.{HashAnswer}
use Rattle.blake2b.specs.declared.params.Params.{Params}
use Rattle.many_work.specs.declared.work.Work.{Work}

-- the work of a job that a refusal answers
abbrev pub zero_work : Work
zero_work = record { words = zeros 8; count = 0; last_node = false; hash_length = 0; finished = false }

-- the range of refusal 14, with an input of n bytes
unfoldable pub work_in_range : Work → ℕ → Bool
work_in_range w n = is_digest_length w.hash_length && leb (w.count + n) limit

-- the bytes of the key block: none without a key
unfoldable pub key_bytes : Params → ℕ
key_bytes p = cond (leb 1 p.key_length) blockbytes 0

-- a job with a key and no input is finished by its key block
abbrev pub finished_at_once : Params → ℕ → Bool
finished_at_once p n = leb 1 p.key_length && eqb n 0

-- the words before the input, the key block having gone where there is one: as the last block, or not
unfoldable pub first_words : Params → Bool → List ℕ
first_words p last =
    cond (leb 1 p.key_length)
    (through_blocks BLAKE2b blockbytes (start BLAKE2b (asked p)) 0 last (last && p.last_node) p.key_block)
    (start BLAKE2b (asked p))

-- the work for an input of n bytes
abbrev pub begun : Params → ℕ → Work
begun p n = record {
  words = first_words p (finished_at_once p n);
  count = key_bytes p;
  last_node = p.last_node;
  hash_length = p.hash_length;
  finished = finished_at_once p n;
}

-- the work once it ran on an input: the last words, and finished; all else as it was
abbrev pub ran : List ℕ → Work → Work
ran m w = record {
  words = through_blocks BLAKE2b blockbytes w.words w.count true w.last_node m;
  count = w.count;
  last_node = w.last_node;
  hash_length = w.hash_length;
  finished = true;
}

-- the work after a call that runs it: what is finished is not run again
unfoldable pub run_on : List ℕ → Work → Work
run_on m w = cond w.finished w (ran m w)

-- the digest of a job whose input has n bytes: 14, then 12
abbrev pub digest_tests : Work → ℕ → List Test
digest_tests w n = test (work_in_range w n) bad_record ∷ test w.finished job_unfinished ∷ []

unfoldable pub work_hash : Work → ℕ → HashAnswer
work_hash w n =
    tested (digest_tests w n) (record { number = accepted; hash = hash_of (take w.hash_length (state_bytes BLAKE2b w.words)) }) no_hash
