-- The history of a bank: to any opens with parameters that setters made (specs/Made.antt), updates, batches, digests, counts and closes, in any
-- order, it answers as the table of specs/Table.antt would, over any number of slots and any limit of records. The chain from the compiled
-- functions: `new` promises the empty bank, and each other public function of src/bank.rt promises `told`, a step of specs/Rules.antt on the
-- bank's own slots at 16 and 16; a digest or a count hands no bank back, and leaves the slots (Isolation's `asking_leaves_bank`); so a program's
-- calls on one bank are a list of these same steps, which is what `history` is about. Assumes nothing.
use mathlib.Core.Path.{◌≡◌, refl, ap}
use mathlib.Core.Bool.{true, false≢true}
use mathlib.Core.List.{List, [], ◌∷◌, map, foldl}
use mathlib.Core.Option.{none, some}
use Prim.Native.Nat.{ℕ, zero, suc}
use lib.ListN.{replicate}
use Rattle.blake2b.specs.Params.{defaults, Setting, after_setting}
use Rattle.blake2b.proofs.Cleaned.{good_defaults, settings_good}
use Rattle.blake2b.proofs.Rows.{state_of, Reached, range_reached, says_number, says_next, says_digest, says_count, stays_reached, opened_reached, opened_state}
use Rattle.bank.specs.Rules.{opening, Call, on, every, answers, after}
use Rattle.bank.specs.Made.{All, Made}
use Rattle.bank.specs.Table.{Entry, is_row, table}
use Rattle.bank.specs.Slots.{closed_slot, open_slot, slot_good, slots, slot_limit, batch_limit, empty_bank}
use Rattle.bank.specs.declared.slot.Slot.{Slot}
use Rattle.bank.proofs.Follows.{Follows, answers_follow, after_follows, after_valid}

-- the slot that an entry stands for
abbrev pub slot_of : Entry → Slot
slot_of none = closed_slot
slot_of (some r) = open_slot (state_of r)

-- a row as calls make it
abbrev pub Valid : Entry → Type 0
Valid none = Unit {0}
Valid (some r) = Reached r

is_open_lem : (x : Entry) → (slot_of x).is_open ≡ is_row x
is_open_lem none = refl
is_open_lem (some r) = refl

is_good : (x : Entry) → Valid x → slot_good (slot_of x) ≡ true
unfolding slot_good
is_good none v = refl
is_good (some r) v = range_reached r v

-- the state's calls are its row's
same_number : (x : Entry) → Valid x → is_row x ≡ true → (d : List ℕ) → slots.taker.number (slot_of x) d ≡ table.taker.number x d
same_number none v e d = absurd (false≢true e)
same_number (some r) v e d = says_number r v d

same_next : (x : Entry) → Valid x → is_row x ≡ true → (d : List ℕ) → slots.taker.next (slot_of x) d ≡ slot_of (table.taker.next x d)
same_next none v e d = absurd (false≢true e)
same_next (some r) v e d = ap open_slot (says_next r v d)

same_digest : (x : Entry) → Valid x → is_row x ≡ true → slots.taker.digested (slot_of x) ≡ table.taker.digested x
same_digest none v e = absurd (false≢true e)
same_digest (some r) v e = says_digest r v

same_count : (x : Entry) → Valid x → is_row x ≡ true → slots.taker.counted (slot_of x) ≡ table.taker.counted x
same_count none v e = absurd (false≢true e)
same_count (some r) v e = says_count r v

stays : (x : Entry) → Valid x → is_row x ≡ true → (d : List ℕ) → Valid (table.taker.next x d)
stays none v e d = absurd (false≢true e)
stays (some r) v e d = stays_reached r v d

-- the bank follows the table
pub follows : Follows table slots slot_of Valid
follows = record {
  closed = refl;
  opened = λ p clean. ap open_slot (opened_state p clean);
  is_open = is_open_lem;
  good = is_good;
  number = same_number;
  next = same_next;
  digested = same_digest;
  counted = same_count;
  closed_valid = tt;
  opened_valid = opened_reached;
  next_valid = stays;
}

-- the empty table, and the empty bank
map_replicate : {X Y : Type 0} (f : X → Y) (n : ℕ) (x : X) → map f (replicate n x) ≡ replicate n (f x)
map_replicate f zero x = refl
map_replicate f (suc n) x = ap (λ (ys : List _). f x ∷ ys) (map_replicate f n x)

empty_valid : (n : ℕ) → All Valid (replicate n none)
empty_valid zero = tt
empty_valid (suc n) = (tt, empty_valid n)

module _ (n most : ℕ) (cs : List Call) (made : All Made cs) where
  -- the answers are the table's
  pub history : answers slots n most (replicate n closed_slot) cs ≡ answers table n most (replicate n none) cs
  history = rw (← map_replicate slot_of n none) (answers_follow table slots slot_of Valid follows n most (replicate n none) cs (empty_valid n) made)

  -- and the bank is fixed by its table
  pub bank_of_table : after slots n most (replicate n closed_slot) cs ≡ map slot_of (after table n most (replicate n none) cs)
  bank_of_table = rw (← map_replicate slot_of n none) (after_follows table slots slot_of Valid follows n most (replicate n none) cs (empty_valid n) made)

  -- whose rows are reached, so that no bank that starts empty meets 14
  pub rows_reached : All Valid (after table n most (replicate n none) cs)
  rows_reached = after_valid table slots slot_of Valid follows n most (replicate n none) cs (empty_valid n) made

all_good : (xs : List Entry) → All Valid xs → every slot_good (map slot_of xs) ≡ true
unfolding every
all_good [] v = refl
all_good (x ∷ xs) v = rw (is_good x v.0) (all_good xs v.1)

pub always_in_range : (n most : ℕ) (cs : List Call) → All Made cs → every slot_good (after slots n most (replicate n closed_slot) cs) ≡ true
always_in_range n most cs made = rw (bank_of_table n most cs made) (all_good (after table n most (replicate n none) cs) (rows_reached n most cs made))

-- parameters that setters made from the defaults are such as `history` asks for, whatever they refused on the way
pub made_by_setters : (k : ℕ) (ss : List Setting) → Made (on k (opening (foldl after_setting defaults ss)))
made_by_setters k ss = (settings_good ss defaults good_defaults).clean

-- the bank of sixteen
pub bank_history : (cs : List Call) → All Made cs
    → answers slots slot_limit batch_limit empty_bank.slots cs ≡ answers table slot_limit batch_limit (replicate slot_limit none) cs
bank_history cs made = history slot_limit batch_limit cs made
