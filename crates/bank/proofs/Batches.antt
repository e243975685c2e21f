-- A batch, record by record: the records from i on, over the slots that those in front of them left.
-- Assumes nothing.
use mathlib.Core.Path.{◌≡◌, ap}
use mathlib.Core.Bool.{true, false}
use mathlib.Core.List.{List}
use Prim.Native.Nat.{ℕ, ◌+◌, ◌<◌, ◌≤◌}
use native.Mathlib.Numerals.{add-one}
use borrow.Author.Tests.{lt-ltb, le-ltb, le-leb, lt-leb, ne_eqb}
use lib.ListN.{length, get_or, set, take, drop, drop_of_length-le}
use lib.Seq.{drop-cons}
use Rattle.std.specs.Prelude.{Ok, Err}
use Rattle.std.proofs.lemmas.List.{get_or_default}
use Rattle.refusals.specs.Numbers.{accepted}
use Rattle.refusals.specs.Answers.{number_of}
use Rattle.refusals.specs.declared.refusal.Refusal.{Refusal}
use Rattle.refusals.specs.declared.refusal.Refusal.TheVariants.{Slot as NoSlot, Batch, Record}
use Rattle.refusals.proofs.Settled.{never_accepted}
use Rattle.bank.specs.Answers.{as_slot_answer, as_batch_answer, SlotAnswer}
use Rattle.bank.specs.Rules.{update_many, fed, every, at, batch, step}
use Rattle.bank.specs.Slots.{slots, slot_limit, batch_limit, told, batch_answer, slot_answer}
use Rattle.bank.specs.declared.bank.Bank.{Bank}
use Rattle.bank.specs.declared.piece.Piece.{Piece}
use Rattle.bank.specs.declared.slot.Slot.{Slot}

-- before the first record
module _ (b : Bank) (ps : List Piece) (used : ℕ) (d : List ℕ) where
  pub batch_bad : false ≡ every slots.good b.slots → as_batch_answer b (Err (record { refusal = Record; index = 0 })) ≡ batch_answer (told b (update_many ps used d))
  unfolding step
  batch_bad e = rw (← e)

  module _ (e : true ≡ every slots.good b.slots) where
    pub batch_too_long : batch_limit < used → as_batch_answer b (Err (record { refusal = Batch; index = 0 })) ≡ batch_answer (told b (update_many ps used d))
    unfolding step
    batch_too_long l = rw (← e, lt-leb used batch_limit l)

    pub batch_starts : used ≤ batch_limit → batch_answer (batch slots slot_limit b.slots b.slots 0 (take used ps) d) ≡ batch_answer (told b (update_many ps used d))
    unfolding step
    batch_starts l = rw (← e, le-leb used batch_limit l)

-- at the record i
module _ (b : Bank) (ys : List Slot) (rs : List Piece) (i : ℕ) (d : List ℕ) (q : Piece) (low : i < length rs) where
  pub batch_slot_number : slot_limit ≤ (get_or rs i q).slot
      → as_batch_answer b (Err (record { refusal = NoSlot; index = i })) ≡ batch_answer (batch slots slot_limit b.slots ys i (drop i rs) d)
  unfolding batch
  batch_slot_number h = rw (drop-cons rs i q low, le-ltb (get_or rs i q).slot slot_limit h)

  module _ (h : (get_or rs i q).slot < slot_limit) (t : Slot) (there : (get_or rs i q).slot < length ys) where
    here : get_or ys (get_or rs i q).slot t ≡ at slots ys (get_or rs i q).slot
    here = get_or_default ys (get_or rs i q).slot t slots.closed there

    pub batch_stops : (e : Refusal) → as_slot_answer (get_or ys (get_or rs i q).slot t) (Err e) ≡ slot_answer (fed slots (get_or ys (get_or rs i q).slot t) (get_or rs i q) d)
        → as_batch_answer b (Err (record { refusal = e; index = i })) ≡ batch_answer (batch slots slot_limit b.slots ys i (drop i rs) d)
    unfolding batch
    batch_stops e a =
        let p : Piece = get_or rs i q in
        let number : number_of e ≡ (fed slots (get_or ys p.slot t) p d).answer.number = ap (λ (x : SlotAnswer). x.number) a in
        rw (drop-cons rs i q low, lt-ltb p.slot slot_limit h, ← here, ← number, ne_eqb (number_of e) accepted (never_accepted e))

    pub batch_goes_on : (next : Slot) → as_slot_answer (get_or ys (get_or rs i q).slot t) (Ok next) ≡ slot_answer (fed slots (get_or ys (get_or rs i q).slot t) (get_or rs i q) d)
        → batch slots slot_limit b.slots (set ys (get_or rs i q).slot next) (i + 1) (drop (i + 1) rs) d ≡ batch slots slot_limit b.slots ys i (drop i rs) d
    unfolding batch
    batch_goes_on next a =
        let p : Piece = get_or rs i q in
        let number : accepted ≡ (fed slots (get_or ys p.slot t) p d).answer.number = ap (λ (x : SlotAnswer). x.number) a in
        let changed : next ≡ (fed slots (get_or ys p.slot t) p d).slot = ap (λ (x : SlotAnswer). x.slot) a in
        rw (drop-cons rs i q low, lt-ltb p.slot slot_limit h, ← here, ← number, ← changed, add-one i)

-- behind the last record
pub batch_ends : (b : Bank) (ys : List Slot) (rs : List Piece) (i : ℕ) (d : List ℕ) → length rs ≤ i
    → as_batch_answer b (Ok (record { slots = ys })) ≡ batch_answer (batch slots slot_limit b.slots ys i (drop i rs) d)
unfolding batch
batch_ends b ys rs i d h = rw (drop_of_length-le rs {i = i} h)
