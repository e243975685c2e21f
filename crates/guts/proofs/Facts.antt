-- What final_facts answers, case by case.
-- Assumes nothing.
use mathlib.Core.Path.{◌≡◌}
use mathlib.Core.List.{List}
use Prim.Native.Nat.{ℕ, ◌<◌, ◌≤◌, min}
use native.Mathlib.Omega.{arith}
use lib.Dec.{leb}
use lib.ListN.{length, drop}
use Rattle.guts.specs.Guts.{final_facts}

module _ (bb row : ℕ) (d : List ℕ) (offset : ℕ) {x : List ℕ} (e : x ≡ drop offset d) where
  pub facts_short : length x < bb → record { len = length x; may_finalize = leb (length x) row } ≡ final_facts bb row d offset
  facts_short h = let m : min bb (length x) ≡ length x = omega arith in rw (← e, m)

  pub facts_whole : bb ≤ length x → record { len = bb; may_finalize = leb (length x) row } ≡ final_facts bb row d offset
  facts_whole h = let m : min bb (length x) ≡ bb = omega arith in rw (← e, m)
