-- What is shown of a digest that is written to a room: as many bytes as were written, and those.
-- Assumes nothing.
use Rattle.std.specs.Prelude.{◌≡◌, ℕ, List, length}
use Rattle.std.specs.Borrow.{Bor}
use Rattle.hash.specs.declared.Hash.{Hash}
use Rattle.hash.specs.Hash.{digest_of, written_answered, written_over, written_part}
use Rattle.replay_text.specs.declared.answer.Shown.{Shown}
use Rattle.replay_text.specs.declared.answer.Shown.TheVariants.{Bytes}

abbrev pub ShowsDigest : Hash → List ℕ → Shown → Type 0
ShowsDigest h room shown =
    let digest = digest_of h in
    (bytes : Bor (List ℕ)) × (shown ≡ Bytes (written_answered h (length digest) (length room)).length bytes)
    × (bytes.now ≡ written_part h (length digest) (written_over h digest room))
