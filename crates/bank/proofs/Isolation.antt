-- Nothing that is done to another diver's slot shows in this one: the theorems of Frames and Alone, of the bank's records and of the table's
-- rows. Over any number of slots and any limit of records. Assumes nothing.
use mathlib.Core.Path.{◌≡◌, refl, sym, ap}
use mathlib.Core.Bool.{Bool, true, false, false≢true}
use mathlib.Core.List.{List, [], ◌∷◌}
use mathlib.Core.Option.{none, some}
use Prim.Native.Nat.{ℕ, ◌+◌}
use lib.Dec.{leb, eqb}
use lib.ListN.{length, take, replicate, length-replicate}
use Rattle.definitions.specs.Family.{BLAKE2b}
use Rattle.definitions.specs.Hash.{keyed}
use Rattle.refusals.specs.Numbers.{accepted, limit}
use Rattle.members.specs.Row.{Answer, Row}
use Rattle.blake2b.specs.Params.{key_of}
use Rattle.blake2b.specs.Row.{row_taker}
use Rattle.blake2b_state.specs.State.{total, state_in_range, updated}
use Rattle.blake2b.specs.declared.params.Params.{Params}
use Rattle.blake2b_state.specs.declared.state.State.{State}
use Rattle.blake2b_state.specs.Answers.{StateAnswer}
use Rattle.bank.specs.Rules.{Ask, Call, on, update_many, at, answers, after}
use Rattle.bank.specs.Made.{All, Made}
use Rattle.bank.specs.Apart.{Spared, of_slot, answers_on, only_on}
use Rattle.bank.specs.Table.{Entry, table}
use Rattle.bank.specs.Slots.{closed_slot, slots, slot_limit, batch_limit, told}
use Rattle.bank.specs.declared.bank.Bank.{Bank}
use Rattle.bank.specs.declared.slot.Slot.{Slot}
use Rattle.bank.proofs.Cases.{either}
use Rattle.bank.proofs.Frames.{Steady, Asks, refused_leaves, asking_leaves, unnamed_kept}
use Rattle.bank.proofs.Alone.{alone}
use Rattle.bank.proofs.History.{history}

-- a state that refuses an update is as it was
abbrev StateLeft : State → StateAnswer → Type 0
StateLeft s a = (a.number ≡ accepted → ⊥) → a.state ≡ s

state_left : (s : State) (d : List ℕ) → StateLeft s (updated s d)
unfolding updated
state_left s d =
    either (StateLeft s) (state_in_range s) _ _
    (λ e. either (StateLeft s) (leb (total s + length d) limit) _ _ (λ h z. absurd (z refl)) (λ h z. refl)) (λ e z. refl)

slots_steady : Steady slots
slots_steady s d e h = λ i. record { is_open = sym e i; state = state_left s.state d h i }

row_left : (r : Row Params) (d : List ℕ) → (row_taker.number r d ≡ accepted → ⊥) → row_taker.next r d ≡ r
row_left r d h = split (leb (length (keyed BLAKE2b (key_of r.params) r.bytes) + length d) limit) refl
  where
    split : (b : Bool) → leb (length (keyed BLAKE2b (key_of r.params) r.bytes) + length d) limit ≡ b → row_taker.next r d ≡ r
    split true e = absurd (h (rw e))
    split false e = rw e

table_steady : Steady table
table_steady none d e h = absurd (false≢true e)
table_steady (some r) d e h = ap some (row_left r d h)

-- a refused call leaves every slot of the bank as it was
pub refused_call_leaves : (b : Bank) (c : Call) → ((told b c).answer.number ≡ accepted → ⊥) → (told b c).slots ≡ b.slots
refused_call_leaves b c h = refused_leaves slots slot_limit batch_limit slots_steady b.slots c h

-- and so does a digest or a count, so that the next call on the same bank is a step on the slots that it left
pub asking_leaves_bank : (b : Bank) (k : ℕ) (ask : Ask) → Asks ask → (told b (on k ask)).slots ≡ b.slots
asking_leaves_bank b k ask asks = asking_leaves slots slot_limit batch_limit b.slots k ask asks

module _ (n most k : ℕ) (cs : List Call) where
  -- a slot that no accepted call names keeps its record
  pub record_kept : (xs : List Slot) → Spared slots n most k xs cs → at slots (after slots n most xs cs) k ≡ at slots xs k
  record_kept xs h = unnamed_kept slots n most slots_steady xs cs k h

  -- and its row
  pub row_kept : (t : List Entry) → Spared table n most k t cs → at table (after table n most t cs) k ≡ at table t k
  row_kept t h = unnamed_kept table n most table_steady t cs k h

-- the calls that are kept are among those that were made
only_made : (k : ℕ) (cs : List Call) (said : List Answer) → All Made cs → All Made (only_on k cs said)
unfolding only_on
only_made k [] said made = tt
only_made k (c ∷ cs) [] made = tt
only_made k (on j ask ∷ cs) (a ∷ said) made =
    let rest = only_made k cs said made.1 in
    either (All Made) (eqb j k) (on j ask ∷ only_on k cs said) (only_on k cs said) (λ e. (made.0, rest)) (λ e. rest)
only_made k (update_many ps used d ∷ cs) (a ∷ said) made =
    let rest = only_made k cs said made.1 in
    let qs = of_slot k (take used ps) in
    either (All Made) (eqb a.number accepted) (update_many qs (length qs) d ∷ only_on k cs said) (only_on k cs said) (λ e. (tt, rest)) (λ e. rest)

-- drop from a history of the bank all refused batches and all calls on other slots, and keep of each accepted batch the records of the slot k:
-- the calls on k answer the same
pub isolation : (n most k : ℕ) (cs : List Call) → All Made cs
    → let said : List Answer = answers slots n most (replicate n closed_slot) cs in
    answers_on k cs said ≡ answers_on k (only_on k cs said) (answers slots n most (replicate n closed_slot) (only_on k cs said))
isolation n most k cs made =
    let said : List Answer = answers table n most (replicate n none) cs in
    rw (history n most cs made, history n most (only_on k cs said) (only_made k cs said made))
    (alone table table_steady (λ x. refl) n most k cs (replicate n none) (replicate n none) (length-replicate n none) (length-replicate n none) refl)
