-- Where a text's first mark is.
-- Assumes nothing.
use Rattle.std.proofs.Common.{◌≡◌, ℕ, ◌<◌, ◌≤◌, ◌==◌, List, length, slice_index, arith}
use Rattle.std.specs.Prelude.{◌≢◌}
use Rattle.std.proofs.lemmas.Bool.Decides.{nat_tests}
use Rattle.std.proofs.lemmas.List.Sums.{position_or_len_is}
use Rattle.replay_text.specs.Words.{place}

-- what `find` answers
pub first_mark : (mark : ℕ) (text : List ℕ) (at : ℕ) → at ≤ length text → ((k : ℕ) → k < at → slice_index text k ≢ mark)
    → (at < length text → slice_index text at ≡ mark) → place mark text ≡ at
first_mark mark text at within before found =
    position_or_len_is (λ byte. byte == mark) text at 0 within (λ k lt. let ne = before k lt in grind (arith, nat_tests)) (λ lt. let e = found lt in grind (arith, nat_tests))
