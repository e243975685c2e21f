-- Histories whose parameters are as the setters leave them: what a caller outside can hand in.
-- Assumes nothing.
use Rattle.std.specs.Prelude.{List, [], ◌∷◌}
use Rattle.blake2b.specs.Params.{Clean}
use Rattle.bank.specs.Rules.{Ask, opening, update, digest, digest_to, count, close, Call, on, update_many}

abbrev pub MadeAsk : Ask → Type 0
MadeAsk (opening p) = Clean p
MadeAsk (update d) = Unit {0}
MadeAsk digest = Unit {0}
MadeAsk (digest_to out) = Unit {0}
MadeAsk count = Unit {0}
MadeAsk close = Unit {0}

abbrev pub Made : Call → Type 0
Made (on k ask) = MadeAsk ask
Made (update_many ps used d) = Unit {0}

-- of each of a list
abbrev pub All : {A : Type 0} → (A → Type 0) → List A → Type 0
All P [] = Unit {0}
All P (x ∷ xs) = P x × All P xs
