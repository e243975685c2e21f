-- A digest that goes to an output: the digest's answer, and then the write of its bytes.
-- Assumes nothing.
use mathlib.Core.Path.{◌≡◌, refl, sym, ap, ◌∙◌}
use mathlib.Core.Bool.{Bool, true, false}
use mathlib.Core.List.{List}
use Prim.Native.Nat.{ℕ}
use native.Mathlib.Omega.{arith}
use borrow.Author.Tests.{eqb-false, eq-eqb, ne_eqb}
use lib.Dec.{eqb}
use lib.ListN.{length}
use Rattle.std.specs.Prelude.{Ok, Err}
use Rattle.refusals.specs.Numbers.{accepted, slot_closed}
use Rattle.refusals.specs.Answers.{number_of}
use Rattle.refusals.specs.declared.refusal.Refusal.{Refusal}
use Rattle.refusals.proofs.Settled.{never_accepted}
use Rattle.hash.specs.Answers.{HashAnswer, LengthAnswer, as_hash_answer, as_length_answer}
use Rattle.hash.specs.declared.Hash.{Hash}
use Rattle.hash.specs.Hash.{is_digest_length, hash_in_range, hash_of, digest_of, written_answered, written_over}
use Rattle.hash.proofs.Digests.{digest_of_hash}
use Rattle.blake2b_state.proofs.Lengths.{digest_sized}
use Rattle.members.specs.Row.{numbered}
use Rattle.bank.specs.Rules.{digest, digest_to, on, refusal, written, reply, at, fault, step}
use Rattle.bank.specs.Slots.{slots, slot_limit, told, hash_answer, length_answer}
use Rattle.bank.specs.declared.bank.Bank.{Bank}
use Rattle.bank.specs.declared.slot.Slot.{Slot}

-- a refused digest is refused with its number
written_refused : (n : ℕ) (out : List ℕ) → (n ≡ accepted → ⊥) → written (numbered n) out ≡ refusal (digest_to out) n
unfolding written
written_refused n out h = rw (ne_eqb n accepted h)

-- of one slot
reply_written : (s : Slot) (out : List ℕ) → (reply slots s (digest_to out)).answer ≡ written (reply slots s digest).answer out
unfolding reply
reply_written s out = split s.is_open refl
  where
    split : (b : Bool) → s.is_open ≡ b → (reply slots s (digest_to out)).answer ≡ written (reply slots s digest).answer out
    split true e = rw e refl
    split false e = rw e (sym (written_refused slot_closed out (λ z. omega arith)))

reply_sized : (s : Slot) → (reply slots s digest).answer.number ≡ accepted → is_digest_length (length (reply slots s digest).answer.bytes) ≡ true
unfolding reply
reply_sized s z = split s.is_open refl
  where
    split : (b : Bool) → s.is_open ≡ b → is_digest_length (length (reply slots s digest).answer.bytes) ≡ true
    split true e = rw e (digest_sized s.state (rw e at z))
    split false e = let f : slot_closed ≡ accepted = rw e at z in absurd (omega arith)

module _ (b : Bank) (k : ℕ) where
  -- of the bank
  pub told_written : (out : List ℕ) → (told b (on k (digest_to out))).answer ≡ written (told b (on k digest)).answer out
  unfolding step
  told_written out = split (eqb (fault slots slot_limit b.slots true k) accepted) refl
    where
      split : (z : Bool) → eqb (fault slots slot_limit b.slots true k) accepted ≡ z → (told b (on k (digest_to out))).answer ≡ written (told b (on k digest)).answer out
      split true e = rw e (reply_written (at slots b.slots k) out)
      split false e = rw e (sym (written_refused (fault slots slot_limit b.slots true k) out (eqb-false (fault slots slot_limit b.slots true k) accepted e)))

  told_sized : (told b (on k digest)).answer.number ≡ accepted → is_digest_length (length (told b (on k digest)).answer.bytes) ≡ true
  unfolding step
  told_sized z = split (eqb (fault slots slot_limit b.slots true k) accepted) refl
    where
      split : (q : Bool) → eqb (fault slots slot_limit b.slots true k) accepted ≡ q → is_digest_length (length (told b (on k digest)).answer.bytes) ≡ true
      split true e = rw e (reply_sized (at slots b.slots k) (rw e at z))
      split false e = absurd (eqb-false (fault slots slot_limit b.slots true k) accepted e (rw e at z))

  module _ (out : List ℕ) where
    pub output_refused : (e : Refusal) → as_hash_answer (Err e) ≡ hash_answer (told b (on k digest)).answer
        → (as_length_answer (Err e) ≡ length_answer (told b (on k (digest_to out))).answer) × (out ≡ (told b (on k (digest_to out))).answer.bytes)
    unfolding written
    output_refused e r =
        let number : number_of e ≡ (told b (on k digest)).answer.number = ap (λ (a : HashAnswer). a.number) r in
        let f : eqb (told b (on k digest)).answer.number accepted ≡ false = ne_eqb _ accepted (λ q. never_accepted e (number ∙ q)) in
        (rw (told_written out, f, number), rw (told_written out, f))

    pub output_written : (h : Hash) → as_hash_answer (Ok h) ≡ hash_answer (told b (on k digest)).answer → {a : LengthAnswer} {to : List ℕ}
        → a ≡ written_answered h (length (digest_of h)) (length out) → to ≡ written_over h (digest_of h) out
        → (a ≡ length_answer (told b (on k (digest_to out))).answer) × (to ≡ (told b (on k (digest_to out))).answer.bytes)
    unfolding written written_answered written_over hash_in_range
    output_written h r f g =
        let d : List ℕ = (told b (on k digest)).answer.bytes in
        let number : accepted ≡ (told b (on k digest)).answer.number = ap (λ (a : HashAnswer). a.number) r in
        let s : is_digest_length (length d) ≡ true = told_sized (sym number) in
        let q : eqb (told b (on k digest)).answer.number accepted ≡ true = eq-eqb _ accepted (sym number) in
        let y : h ≡ hash_of d = ap (λ (a : HashAnswer). a.hash) r in
        let x : digest_of (hash_of d) ≡ d = digest_of_hash d in
        (f ∙ rw (told_written out, q, y, x, s), g ∙ rw (told_written out, q, y, x, s))
