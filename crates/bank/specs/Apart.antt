-- What of a history concerns one slot: the calls that name it, and of each accepted batch its own records, in their order.
-- Assumes nothing.
use Rattle.std.specs.Prelude.{Bool, false, cond, ◌||◌, List, [], ◌∷◌, ◌≡◌, ℕ, eqb, length, take}
use Rattle.refusals.specs.Numbers.{accepted}
use Rattle.members.specs.Row.{Answer}
use Rattle.bank.specs.Rules.{Call, on, update_many, Kind, step}
use Rattle.bank.specs.declared.piece.Piece.{Piece}

-- some record is for the slot k
unfoldable pub among : ℕ → List Piece → Bool
among k [] = false
among k (p ∷ ps) = eqb p.slot k || among k ps

abbrev pub names : ℕ → Call → Bool
names k (on j ask) = eqb j k
names k (update_many ps used d) = among k (take used ps)

-- in a history from xs on, no accepted call names the slot k
abbrev pub Spared : {X : Type 0} → Kind X → ℕ → ℕ → ℕ → List X → List Call → Type 0
Spared kind n most k xs [] = Unit {0}
Spared kind n most k xs (c ∷ cs) =
    ((step kind n most xs c).answer.number ≡ accepted → names k c ≡ false) × Spared kind n most k (step kind n most xs c).slots cs

-- the records of the slot k
unfoldable pub of_slot : ℕ → List Piece → List Piece
of_slot k [] = []
of_slot k (p ∷ ps) = cond (eqb p.slot k) (p ∷ of_slot k ps) (of_slot k ps)

-- of calls and their answers: the answers of the calls on the slot k alone
unfoldable pub answers_on : ℕ → List Call → List Answer → List Answer
answers_on k [] said = []
answers_on k (c ∷ cs) [] = []
answers_on k (on j ask ∷ cs) (a ∷ said) = cond (eqb j k) (a ∷ answers_on k cs said) (answers_on k cs said)
answers_on k (update_many ps used d ∷ cs) (a ∷ said) = answers_on k cs said

-- of calls and their answers: the calls without refused batches and calls on other slots, and of each accepted batch the records of the slot k
unfoldable pub only_on : ℕ → List Call → List Answer → List Call
only_on k [] said = []
only_on k (c ∷ cs) [] = []
only_on k (on j ask ∷ cs) (a ∷ said) = cond (eqb j k) (on j ask ∷ only_on k cs said) (only_on k cs said)
only_on k (update_many ps used d ∷ cs) (a ∷ said) =
    let qs : List Piece = of_slot k (take used ps) in
    cond (eqb a.number accepted) (update_many qs (length qs) d ∷ only_on k cs said) (only_on k cs said)
