-- Document 01's rules of slots: what is asked of a bank and what it answers, over any number of slots, any limit of records in a batch and
-- whatever a slot holds. Refusals stand in document 01's order. Assumes nothing.
use Rattle.std.specs.Prelude.{Bool, true, cond, not, ◌&&◌, List, [], ◌∷◌, ℕ, suc, ltb, leb, eqb, length, get_or, set, take, drop}
use Rattle.refusals.specs.Numbers.{accepted, slot_number, slot_closed, piece_outside, batch_long, slot_open, bad_record, piece_ok}
use Rattle.refusals.specs.Tests.{Test, test, tested, first}
use Rattle.members.specs.Row.{Answer, numbered, Taker}
use Rattle.hash.specs.Output.{wrote, wrote_over}
use Rattle.hash.specs.Answers.{LengthAnswer}
use Rattle.blake2b.specs.Params.{in_range}
use Rattle.blake2b.specs.declared.params.Params.{Params}
use Rattle.bank.specs.declared.piece.Piece.{Piece}

-- what one slot is asked
pub data Ask : Type 0 where
  opening : Params → Ask
  update : List ℕ → Ask
  digest : Ask
  -- to an output that holds these bytes
  digest_to : List ℕ → Ask
  count : Ask
  close : Ask

-- what a bank is asked: something of one slot, or a batch of the first so many records, over these data
pub data Call : Type 0 where
  on : ℕ → Ask → Call
  update_many : List Piece → ℕ → List ℕ → Call

-- an answer and what the slot holds after it; an answer and what all slots hold
pub record Reply (X : Type 0) : Type 0 where
  pub answer : Answer
  pub slot : X

pub record Result (X : Type 0) : Type 0 where
  pub answer : Answer
  pub slots : List X

-- a refusal of what was asked: an output is as it was
abbrev pub refusal : Ask → ℕ → Answer
refusal (digest_to out) n = record { number = n; index = 0; value = 0; bytes = out }
refusal (opening p) n = numbered n
refusal (update d) n = numbered n
refusal digest n = numbered n
refusal count n = numbered n
refusal close n = numbered n

-- a digest's answer, when it is to go to an output: that of the write, which is 11 where the output is shorter
unfoldable pub written : Answer → List ℕ → Answer
written a out =
    let w : LengthAnswer = wrote (length a.bytes) (length out) in
    cond (eqb a.number accepted) (record { number = w.number; index = 0; value = w.length; bytes = wrote_over a.bytes out }) (refusal (digest_to out) a.number)

-- what a slot can hold: what a closed one is, and what opening makes; whether one is open, and keeps the ranges of refusal 14; and what an open
-- one makes of bytes, digests and counts
pub record Kind (X : Type 0) : Type 0 where
  pub closed : X
  pub opened : Params → X
  pub is_open : X → Bool
  pub good : X → Bool
  pub taker : Taker X (List ℕ)

-- the taker of slots of which an open one holds what takes the calls
abbrev pub slot_taker : {X Y : Type 0} → Taker Y (List ℕ) → (X → Y) → (Y → X) → Taker X (List ℕ)
slot_taker t held holding = record {
  number = λ x d. t.number (held x) d;
  next = λ x d. holding (t.next (held x) d);
  digested = λ x. t.digested (held x);
  counted = λ x. t.counted (held x);
}

-- an open slot is not opened again, and a closed one is asked for nothing else: 13, 8
abbrev pub open_tests : Bool → Ask → List Test
open_tests is_open (opening p) = test (not is_open) slot_open ∷ []
open_tests is_open (update d) = test is_open slot_closed ∷ []
open_tests is_open digest = test is_open slot_closed ∷ []
open_tests is_open (digest_to out) = test is_open slot_closed ∷ []
open_tests is_open count = test is_open slot_closed ∷ []
open_tests is_open close = test is_open slot_closed ∷ []

-- a record at a slot that is open or not, whose piece lies inside the data or not: 8, then 9
unfoldable pub place_fault : Bool → Bool → ℕ
place_fault is_open inside = first (test is_open slot_closed ∷ test inside piece_outside ∷ [])

-- the bytes of a record
unfoldable pub piece : Piece → List ℕ → List ℕ
piece p d = take p.length (drop p.start d)

unfoldable pub every : {X : Type 0} → (X → Bool) → List X → Bool
every good [] = true
every good (x ∷ xs) = good x && every good xs

-- parameters that are handed in are a record of their own
abbrev pub good_ask : Ask → Bool
good_ask (opening p) = in_range p
good_ask (update d) = true
good_ask digest = true
good_ask (digest_to out) = true
good_ask count = true
good_ask close = true

module _ {X : Type 0} (kind : Kind X) where
  -- bytes that come to an open slot: 6
  abbrev pub updated : X → List ℕ → Reply X
  updated x d = record { answer = numbered (kind.taker.number x d); slot = kind.taker.next x d }

  -- what is done where it may be
  abbrev pub done : X → Ask → Reply X
  done x (opening p) = record { answer = numbered accepted; slot = kind.opened p }
  done x (update d) = updated x d
  done x digest = record { answer = kind.taker.digested x; slot = x }
  done x (digest_to out) = record { answer = written (kind.taker.digested x) out; slot = x }
  done x count = record { answer = kind.taker.counted x; slot = x }
  done x close = record { answer = numbered accepted; slot = kind.closed }

  -- one slot: 13 or 8, then what is done (6, 11)
  unfoldable pub reply : X → Ask → Reply X
  reply x ask = tested (open_tests (kind.is_open x) ask) (done x ask) (λ n. record { answer = refusal ask n; slot = x })

  -- one record of a batch, at its slot: 8, 9, then 6
  unfoldable pub fed : X → Piece → List ℕ → Reply X
  fed x p d =
      let f : ℕ = place_fault (kind.is_open x) (piece_ok p.start p.length (length d)) in
      cond (eqb f accepted) (updated x (piece p d)) (record { answer = numbered f; slot = x })

  -- the slot k
  abbrev pub at : List X → ℕ → X
  at xs k = get_or xs k kind.closed

  -- n slots
  module _ (n : ℕ) where
    -- 14 on the slots and on parameters handed in, then 7
    unfoldable pub fault : List X → Bool → ℕ → ℕ
    fault xs good k = first (test (every kind.good xs && good) bad_record ∷ test (ltb k n) slot_number ∷ [])

    -- record by record, 7 and then what its slot answers; the first bad one decides, and all slots are as they were, which is xs
    unfoldable pub batch : List X → List X → ℕ → List Piece → List ℕ → Result X
    batch xs ys i [] d = record { answer = numbered accepted; slots = ys }
    batch xs ys i (p ∷ ps) d =
        let r : Reply X = fed (at ys p.slot) p d in
        tested (test (ltb p.slot n) slot_number ∷ test (eqb r.answer.number accepted) r.answer.number ∷ [])
        (batch xs (set ys p.slot r.slot) (suc i) ps d) (λ m. record { answer = record { number = m; index = i; value = 0; bytes = [] }; slots = xs })

    -- a call on a bank where a batch has at most so many records: on one slot 14 and 7, then what the slot replies; a batch 14, then 10
    unfoldable pub step : ℕ → List X → Call → Result X
    step most xs (on k ask) =
        let r : Reply X = reply (at xs k) ask in
        let f : ℕ = fault xs (good_ask ask) k in
        cond (eqb f accepted) (record { answer = r.answer; slots = set xs k r.slot }) (record { answer = refusal ask f; slots = xs })
    step most xs (update_many ps used d) =
        tested (test (every kind.good xs) bad_record ∷ test (leb used most) batch_long ∷ [])
        (batch xs xs 0 (take used ps) d) (λ m. record { answer = numbered m; slots = xs })

    -- a history: the answers to calls in their order, and what the slots hold at the end
    unfoldable pub answers : ℕ → List X → List Call → List Answer
    answers most xs [] = []
    answers most xs (c ∷ cs) = (step most xs c).answer ∷ answers most (step most xs c).slots cs

    unfoldable pub after : ℕ → List X → List Call → List X
    after most xs [] = xs
    after most xs (c ∷ cs) = after most (step most xs c).slots cs
