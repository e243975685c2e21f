-- What the enums of guts.rs stand for, and what is said of the block at an offset of the input: document 01, module 1.
-- Assumes nothing.
use Rattle.std.specs.Prelude.{Bool, true, false, List, ℕ, min, leb, length, drop}
use Rattle.guts.specs.declared.Finalize.{Finalize}
use Rattle.guts.specs.declared.Finalize.TheVariants as finalize
use Rattle.guts.specs.declared.LastNode.{LastNode}
use Rattle.guts.specs.declared.LastNode.TheVariants as flag
use Rattle.guts.specs.declared.FinalFacts.{FinalFacts}

abbrev pub finalizes : Finalize → Bool
finalizes finalize.Yes = true
finalizes finalize.No = false

abbrev pub is_last_node : LastNode → Bool
is_last_node flag.Yes = true
is_last_node flag.No = false

-- in blocks of bb bytes that start `row` bytes apart: the input's bytes in the block, and whether the next one would start past the end
abbrev pub final_facts : ℕ → ℕ → List ℕ → ℕ → FinalFacts
final_facts bb row d offset = record { len = min bb (length (drop offset d)); may_finalize = leb (length (drop offset d)) row }
