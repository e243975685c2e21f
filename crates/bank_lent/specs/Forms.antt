-- Which calls ask a bank for the same: a batch of the first so many of some records, and one of a list of just these. Histories of such calls.
-- Assumes nothing.
use Rattle.std.specs.Prelude.{List, [], ◌∷◌, ◌⊎◌, ◌≡◌, ℕ, length, take}
use Rattle.bank.specs.Rules.{Call, on, update_many}
use Rattle.bank.specs.declared.piece.Piece.{Piece}

-- qs are the first `used` records of ps
abbrev pub Front : List Piece → ℕ → List Piece → Type 0
Front ps used qs = (take used ps ≡ qs) × (length qs ≡ used)

-- the batch over a lent list
abbrev pub lent : List Piece → List ℕ → Call
lent qs d = update_many qs (length qs) d

-- the batch c, over a list of just its records
abbrev pub Lends : Call → Call → Type 0
Lends (on k ask) e = ⊥
Lends (update_many ps used d) e = (qs : List Piece) × Front ps used qs × (e ≡ lent qs d)

-- call by call the same one, or the same batch in the other form
abbrev pub Alike : List Call → List Call → Type 0
Alike [] [] = Unit {0}
Alike [] (e ∷ es) = ⊥
Alike (c ∷ cs) [] = ⊥
Alike (c ∷ cs) (e ∷ es) = ((c ≡ e) ⊎ Lends c e) × Alike cs es
