-- What the bank's functions make of a slot's answers is a step of the rules, call by call.
-- Assumes nothing.
use mathlib.Core.Path.{◌≡◌, refl, sym, ap, ◌∙◌}
use mathlib.Core.Bool.{◌&&◌, and-false}
use mathlib.Core.List.{List, [], ◌∷◌}
use Prim.Native.Nat.{ℕ, ◌<◌}
use borrow.Author.Tests.{ne_eqb}
use lib.ListN.{length, get_or, set}
use lib.Seq.{set-get_or}
use Rattle.std.specs.Prelude.{Bool, true, false, Ok, Err}
use Rattle.std.specs.List.{list_all}
use Rattle.std.proofs.lemmas.List.{get_or_default}
use Rattle.definitions.specs.Words.{pad}
use Rattle.laws_words.specs.Bytes.{zeros}
use Rattle.refusals.specs.Numbers.{accepted}
use Rattle.refusals.specs.Answers.{number_of}
use Rattle.refusals.specs.declared.refusal.Refusal.{Refusal}
use Rattle.refusals.specs.declared.refusal.Refusal.TheVariants.{Record}
use Rattle.refusals.proofs.Settled.{never_accepted}
use Rattle.bank.specs.Answers.{as_slot_answer, as_bank_answer, SlotAnswer}
use Rattle.hash.specs.Answers.{as_hash_answer}
use Rattle.blake2b_state.specs.Answers.{as_count_answer}
use Rattle.bank.specs.Rules.{Ask, opening, update, digest, digest_to, count, close, on, refusal, reply, every, good_ask, at, fault, step}
use Rattle.bank.specs.Slots.{slots, slot_limit, told, bank_answer, slot_answer, hash_answer, count_answer}
use Rattle.bank.specs.declared.bank.Bank.{Bank}
use Rattle.bank.specs.declared.slot.Slot.{Slot}

-- a test of every element is the library's
pub every_is : {X : Type 0} (good : X → Bool) (xs : List X) → list_all good xs ≡ every good xs
unfolding every
every_is good [] = refl
every_is good (x ∷ xs) = ap (λ (b : Bool). good x && b) (every_is good xs)

refusal_number : (ask : Ask) (n : ℕ) → (refusal ask n).number ≡ n
refusal_number (opening p) n = refl
refusal_number (update d) n = refl
refusal_number digest n = refl
refusal_number (digest_to out) n = refl
refusal_number count n = refl
refusal_number close n = refl

-- a call on one slot whose parameters are bad
pub params_refused : (b : Bank) (k : ℕ) (ask : Ask) → false ≡ good_ask ask → as_bank_answer b (Err Record) ≡ bank_answer (told b (on k ask))
unfolding step fault
params_refused b k ask bad = rw (← bad, and-false, refusal_number ask (number_of Record))

-- a call on one slot, with good parameters or none
module _ (b : Bank) (k : ℕ) (ask : Ask) (good : true ≡ good_ask ask) where
  -- that is refused before the slot is asked
  module _ (e : Refusal) (f : number_of e ≡ fault slots slot_limit b.slots true k) where
    pub answer_refused : (told b (on k ask)).answer ≡ refusal ask (number_of e)
    unfolding step
    answer_refused = rw (← good, ← f, ne_eqb (number_of e) accepted (never_accepted e))

    pub call_refused : as_bank_answer b (Err e) ≡ bank_answer (told b (on k ask))
    unfolding step
    call_refused = rw (← good, ← f, ne_eqb (number_of e) accepted (never_accepted e), refusal_number ask (number_of e))

  -- that its slot answers
  module _ (f : accepted ≡ fault slots slot_limit b.slots true k) (there : k < length b.slots) (d : Slot) where
    here : get_or b.slots k d ≡ at slots b.slots k
    here = get_or_default b.slots k d slots.closed there

    pub answer_of_slot : (reply slots (get_or b.slots k d) ask).answer ≡ (told b (on k ask)).answer
    unfolding step
    answer_of_slot = rw (← good, ← f, here)

    pub slot_refused : (e : Refusal) → as_slot_answer (get_or b.slots k d) (Err e) ≡ slot_answer (reply slots (get_or b.slots k d) ask)
        → as_bank_answer b (Err e) ≡ bank_answer (told b (on k ask))
    unfolding step
    slot_refused e a =
        let s : Slot = get_or b.slots k d in
        let number : number_of e ≡ (reply slots s ask).answer.number = ap (λ (x : SlotAnswer). x.number) a in
        let kept : s ≡ (reply slots s ask).slot = ap (λ (x : SlotAnswer). x.slot) a in
        let back : set b.slots k (reply slots s ask).slot ≡ b.slots = ap (set b.slots k) (sym kept) ∙ set-get_or b.slots k d in
        rw (← good, ← f, ← here, ← number, back)

    pub slot_changed : (t : Slot) {next : Bank} → as_slot_answer (get_or b.slots k d) (Ok t) ≡ slot_answer (reply slots (get_or b.slots k d) ask)
        → next ≡ record { slots = set b.slots k t } → as_bank_answer b (Ok next) ≡ bank_answer (told b (on k ask))
    unfolding step
    slot_changed t a e =
        let s : Slot = get_or b.slots k d in
        let number : accepted ≡ (reply slots s ask).answer.number = ap (λ (x : SlotAnswer). x.number) a in
        let changed : t ≡ (reply slots s ask).slot = ap (λ (x : SlotAnswer). x.slot) a in
        rw (← good, ← f, ← here, ← number, ← changed, e)

-- a digest and a count hand no bank back
module _ (b : Bank) (k : ℕ) (e : Refusal) (f : number_of e ≡ fault slots slot_limit b.slots true k) where
  pub hash_refused : as_hash_answer (Err e) ≡ hash_answer (told b (on k digest)).answer
  unfolding pad zeros
  hash_refused = rw (answer_refused b k digest refl e f)

  pub count_refused : as_count_answer (Err e) ≡ count_answer (told b (on k count)).answer
  count_refused = rw (answer_refused b k count refl e f)
