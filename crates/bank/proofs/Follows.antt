-- One kind of slots follows another through a function of what they hold: then replies, batches, steps and whole histories do, and what is
-- valid stays valid. Over any number of slots and any limit of records. Assumes nothing.
use mathlib.Core.Path.{◌≡◌, refl, sym, ap}
use mathlib.Core.Bool.{Bool, true, ◌&&◌}
use mathlib.Core.List.{List, [], ◌∷◌, map}
use Prim.Native.Nat.{ℕ, zero, suc}
use borrow.Author.Tests.{eqb-true}
use lib.Dec.{ltb, leb, eqb}
use lib.ListN.{length, get_or, set, take, get_or-map}
use Rattle.refusals.specs.Numbers.{accepted, piece_ok}
use Rattle.refusals.proofs.Picks.{tested_keeps, tested_both}
use Rattle.refusals.proofs.Picks as picks
use Rattle.members.specs.Row.{Answer, numbered}
use Rattle.blake2b.specs.Params.{in_range, Clean}
use Rattle.blake2b.specs.declared.params.Params.{Params}
use Rattle.bank.specs.Rules.{Ask, opening, update, digest, digest_to, count, close, Call, on, update_many, Reply, Result, Kind}
use Rattle.bank.specs.Rules.{written, open_tests, place_fault, piece, every, good_ask, updated, done, reply, fed, at, fault, batch, step, answers, after}
use Rattle.bank.specs.Made.{MadeAsk, Made, All}
use Rattle.bank.specs.declared.piece.Piece.{Piece}
use Rattle.bank.proofs.Cases.{both, either}
use Rattle.bank.proofs.Records.{no_fault_means, by_first}
use Rattle.bank.proofs.Replies.{placed}

abbrev pub map_reply : {X Y : Type 0} → (X → Y) → Reply X → Reply Y
map_reply f r = record { answer = r.answer; slot = f r.slot }

abbrev pub map_result : {X Y : Type 0} → (X → Y) → Result X → Result Y
map_result f r = record { answer = r.answer; slots = map f r.slots }

pub all_set : {A : Type 0} (P : A → Type 0) (xs : List A) (k : ℕ) (v : A) → All P xs → P v → All P (set xs k v)
all_set P [] k v a b = tt
all_set P (x ∷ xs) zero v a b = (b, a.1)
all_set P (x ∷ xs) (suc k) v a b = (a.0, all_set P xs k v a.1 b)

pub all_get : {A : Type 0} (P : A → Type 0) (xs : List A) (k : ℕ) (d : A) → All P xs → P d → P (get_or xs k d)
all_get P [] k d a b = b
all_get P (x ∷ xs) zero d a b = a.0
all_get P (x ∷ xs) (suc k) d a b = all_get P xs k d a.1 b

map_set : {X Y : Type 0} (f : X → Y) (xs : List X) (k : ℕ) (v : X) → map f (set xs k v) ≡ set (map f xs) k (f v)
map_set f [] k v = refl
map_set f (x ∷ xs) zero v = refl
map_set f (x ∷ xs) (suc k) v = ap (λ (ys : List _). f x ∷ ys) (map_set f xs k v)

pub record Follows {X Y : Type 0} (a : Kind X) (b : Kind Y) (f : X → Y) (Valid : X → Type 0) : Type 0 where
  pub closed : f a.closed ≡ b.closed
  pub opened : (p : Params) → Clean p → f (a.opened p) ≡ b.opened p
  pub is_open : (x : X) → b.is_open (f x) ≡ a.is_open x
  pub good : (x : X) → Valid x → b.good (f x) ≡ a.good x
  pub number : (x : X) → Valid x → a.is_open x ≡ true → (d : List ℕ) → b.taker.number (f x) d ≡ a.taker.number x d
  pub next : (x : X) → Valid x → a.is_open x ≡ true → (d : List ℕ) → b.taker.next (f x) d ≡ f (a.taker.next x d)
  pub digested : (x : X) → Valid x → a.is_open x ≡ true → b.taker.digested (f x) ≡ a.taker.digested x
  pub counted : (x : X) → Valid x → a.is_open x ≡ true → b.taker.counted (f x) ≡ a.taker.counted x
  pub closed_valid : Valid a.closed
  pub opened_valid : (p : Params) → Clean p → in_range p ≡ true → Valid (a.opened p)
  pub next_valid : (x : X) → Valid x → a.is_open x ≡ true → (d : List ℕ) → Valid (a.taker.next x d)

module _ {X Y : Type 0} (a : Kind X) (b : Kind Y) (f : X → Y) (Valid : X → Type 0) (F : Follows a b f Valid) where
  -- one slot
  module _ (x : X) (valid : Valid x) where
    updated_follows : a.is_open x ≡ true → (d : List ℕ) → updated b (f x) d ≡ map_reply f (updated a x d)
    updated_follows e d = λ i. record { answer = numbered (F.number x valid e d i); slot = F.next x valid e d i }

    -- an answer that leaves the slot
    answering : {s t : Answer} → t ≡ s → record { answer = t; slot = f x } ≡ map_reply f (record { answer = s; slot = x })
    answering e = λ i. record { answer = e i; slot = f x }

    done_follows : (ask : Ask) → MadeAsk ask → picks.All (open_tests (a.is_open x) ask) → done b (f x) ask ≡ map_reply f (done a x ask)
    done_follows (opening p) made all = λ i. record { answer = numbered accepted; slot = sym (F.opened p made) i }
    done_follows (update d) made all = updated_follows all.0 d
    done_follows digest made all = answering (F.digested x valid all.0)
    done_follows (digest_to out) made all = answering (ap (λ (w : Answer). written w out) (F.digested x valid all.0))
    done_follows count made all = answering (F.counted x valid all.0)
    done_follows close made all = λ i. record { answer = numbered accepted; slot = sym F.closed i }

    reply_follows : (ask : Ask) → MadeAsk ask → reply b (f x) ask ≡ map_reply f (reply a x ask)
    unfolding reply
    reply_follows ask made = rw (F.is_open x) (tested_both (map_reply f) (open_tests (a.is_open x) ask) (λ all. done_follows ask made all) (λ n. refl))

    -- what is valid stays so
    abbrev Kept : Reply X → Type 0
    Kept r = Valid r.slot

    done_valid : (ask : Ask) → MadeAsk ask → good_ask ask ≡ true → picks.All (open_tests (a.is_open x) ask) → Kept (done a x ask)
    done_valid (opening p) made good all = F.opened_valid p made good
    done_valid (update d) made good all = F.next_valid x valid all.0 d
    done_valid digest made good all = valid
    done_valid (digest_to out) made good all = valid
    done_valid count made good all = valid
    done_valid close made good all = F.closed_valid

    reply_valid : (ask : Ask) → MadeAsk ask → good_ask ask ≡ true → Kept (reply a x ask)
    unfolding reply
    reply_valid ask made good = tested_keeps Kept (open_tests (a.is_open x) ask) _ _ (λ all. done_valid ask made good all) (λ n. valid)

    fed_follows : (p : Piece) (d : List ℕ) → fed b (f x) p d ≡ map_reply f (fed a x p d)
    unfolding fed
    fed_follows p d =
        let inside : Bool = piece_ok p.start p.length (length d) in
        rw (F.is_open x)
        (both (map_reply f) (eqb (place_fault (a.is_open x) inside) accepted)
        (λ e. updated_follows (placed (a.is_open x) inside (eqb-true (place_fault (a.is_open x) inside) accepted e)).0 (piece p d)) (λ e. refl))

    fed_valid : (p : Piece) (d : List ℕ) → Kept (fed a x p d)
    unfolding fed
    fed_valid p d =
        let inside : Bool = piece_ok p.start p.length (length d) in
        either Kept (eqb (place_fault (a.is_open x) inside) accepted) _ _
        (λ e. F.next_valid x valid (placed (a.is_open x) inside (eqb-true (place_fault (a.is_open x) inside) accepted e)).0 (piece p d)) (λ e. valid)

  -- all slots
  at_follows : (xs : List X) (k : ℕ) → at b (map f xs) k ≡ f (at a xs k)
  at_follows xs k = rw (← F.closed) (get_or-map f xs k a.closed)

  at_valid : (xs : List X) (k : ℕ) → All Valid xs → Valid (at a xs k)
  at_valid xs k valid = all_get Valid xs k a.closed valid F.closed_valid

  every_follows : (xs : List X) → All Valid xs → every b.good (map f xs) ≡ every a.good xs
  unfolding every
  every_follows [] valid = refl
  every_follows (x ∷ xs) valid = λ i. F.good x valid.0 i && every_follows xs valid.1 i

  AllKept : Result X → Type 0
  AllKept r = All Valid r.slots

  module _ (n : ℕ) where
    fault_follows : (xs : List X) → All Valid xs → (good : Bool) (k : ℕ) → fault b n (map f xs) good k ≡ fault a n xs good k
    unfolding fault
    fault_follows xs valid good k = rw (every_follows xs valid)

    batch_follows : (xs ys : List X) (i : ℕ) (ps : List Piece) (d : List ℕ) → All Valid ys → batch b n (map f xs) (map f ys) i ps d ≡ map_result f (batch a n xs ys i ps d)
    unfolding batch
    batch_follows xs ys i [] d valid = refl
    batch_follows xs ys i (p ∷ ps) d valid =
        let k : ℕ = p.slot in
        let r : Reply X = fed a (at a ys k) p d in
        let v : Valid (at a ys k) = at_valid ys k valid in
        let rest = batch_follows xs (set ys k r.slot) (suc i) ps d (all_set Valid ys k r.slot valid (fed_valid (at a ys k) v p d)) in
        rw (at_follows ys k, fed_follows (at a ys k) v p d)
        (both (map_result f) (ltb k n)
        (λ e. both (map_result f) (eqb r.answer.number accepted) (λ h. rw (← map_set f ys k r.slot) rest) (λ h. refl)) (λ e. refl))

    batch_valid : (xs ys : List X) (i : ℕ) (ps : List Piece) (d : List ℕ) → All Valid xs → All Valid ys → AllKept (batch a n xs ys i ps d)
    unfolding AllKept
    batch_valid xs ys i [] d old valid = unfold batch in valid
    batch_valid xs ys i (p ∷ ps) d old valid =
        let k : ℕ = p.slot in
        let r : Reply X = fed a (at a ys k) p d in
        by_first a n xs ys i p ps d AllKept
        (batch_valid xs (set ys k r.slot) (suc i) ps d old (all_set Valid ys k r.slot valid (fed_valid (at a ys k) (at_valid ys k valid) p d))) (λ m. old)

    module _ (most : ℕ) where
      step_follows : (xs : List X) (c : Call) → All Valid xs → Made c → step b n most (map f xs) c ≡ map_result f (step a n most xs c)
      unfolding step
      step_follows xs (on k ask) valid made =
          rw (fault_follows xs valid (good_ask ask) k, at_follows xs k, reply_follows (at a xs k) (at_valid xs k valid) ask made, ← map_set f xs k (reply a (at a xs k) ask).slot)
          (both (map_result f) (eqb (fault a n xs (good_ask ask) k) accepted) (λ e. refl) (λ e. refl))
      step_follows xs (update_many ps used d) valid made =
          rw (every_follows xs valid)
          (both (map_result f) (every a.good xs) (λ e. both (map_result f) (leb used most) (λ h. batch_follows xs xs 0 (take used ps) d valid) (λ h. refl)) (λ e. refl))

      step_valid : (xs : List X) (c : Call) → All Valid xs → Made c → AllKept (step a n most xs c)
      unfolding step AllKept
      step_valid xs (on k ask) valid made =
          either AllKept (eqb (fault a n xs (good_ask ask) k) accepted) _ _
          (λ e.
          let may = (no_fault_means a n xs (good_ask ask) k (eqb-true (fault a n xs (good_ask ask) k) accepted e)).1 in
          all_set Valid xs k (reply a (at a xs k) ask).slot valid (reply_valid (at a xs k) (at_valid xs k valid) ask made may))
          (λ e. valid)
      step_valid xs (update_many ps used d) valid made =
          either AllKept (every a.good xs) _ _ (λ e. either AllKept (leb used most) _ _ (λ h. batch_valid xs xs 0 (take used ps) d valid valid) (λ h. valid)) (λ e. valid)

      pub answers_follow : (xs : List X) (cs : List Call) → All Valid xs → All Made cs → answers b n most (map f xs) cs ≡ answers a n most xs cs
      unfolding answers AllKept
      answers_follow xs [] valid made = refl
      answers_follow xs (c ∷ cs) valid made =
          rw (step_follows xs c valid made.0)
          (ap (λ (l : List Answer). (step a n most xs c).answer ∷ l) (answers_follow (step a n most xs c).slots cs (step_valid xs c valid made.0) made.1))

      -- what the slots hold after a history
      pub after_follows : (xs : List X) (cs : List Call) → All Valid xs → All Made cs → after b n most (map f xs) cs ≡ map f (after a n most xs cs)
      unfolding after AllKept
      after_follows xs [] valid made = refl
      after_follows xs (c ∷ cs) valid made =
          rw (step_follows xs c valid made.0) (after_follows (step a n most xs c).slots cs (step_valid xs c valid made.0) made.1)

      pub after_valid : (xs : List X) (cs : List Call) → All Valid xs → All Made cs → All Valid (after a n most xs cs)
      unfolding after AllKept
      after_valid xs [] valid made = valid
      after_valid xs (c ∷ cs) valid made = after_valid (step a n most xs c).slots cs (step_valid xs c valid made.0) made.1
