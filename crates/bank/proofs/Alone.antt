-- One slot by itself: what its own calls answer does not depend on the other slots. Drop from a history the refused batches and the calls on
-- other slots, keep of each accepted batch the slot's own records, and its calls answer the same. Over any kind of slots that can't leave
-- their ranges, as a table's rows can't, any number of them and any limit of records. Assumes nothing.
use mathlib.Core.Path.{◌≡◌, refl, sym, ap, ◌∙◌}
use mathlib.Core.Bool.{Bool, true, false, cond}
use mathlib.Core.List.{List, [], ◌∷◌}
use Prim.Native.Nat.{ℕ, suc, ◌<◌, ◌≤◌}
use native.Mathlib.Omega.{arith}
use borrow.Author.Tests.{ltb-true, le-leb, leb-true, eqb-true, eqb-false}
use lib.Dec.{ltb, leb, eqb}
use lib.ListN.{length, set, take, length-set, length-take}
use lib.Seq.{get_or-set_same, take-length}
use Rattle.refusals.specs.Numbers.{accepted, slot_number, batch_long, bad_record}
use Rattle.bank.specs.Rules.{Ask, Call, on, update_many, Reply, Result, Kind, refusal, every, good_ask, reply, fed, at, fault, batch, step, answers}
use Rattle.members.specs.Row.{Answer}
use Rattle.bank.specs.Apart.{of_slot, answers_on, only_on}
use Rattle.bank.specs.declared.piece.Piece.{Piece}
use Rattle.bank.proofs.Cases.{either}
use Rattle.bank.proofs.Frames.{Steady, refused_leaves, other_kept, other_slot}
use Rattle.bank.proofs.Records.{no_fault_means, by_first, first_accepted, goes_on}

-- the records of a slot are no more than all
few_of_slot : (k : ℕ) (ps : List Piece) → length (of_slot k ps) ≤ length ps
unfolding of_slot
few_of_slot k [] = omega arith
few_of_slot k (p ∷ ps) =
    let rest = few_of_slot k ps in
    either (λ (l : List Piece). length l ≤ suc (length ps)) (eqb p.slot k) (p ∷ of_slot k ps) (of_slot k ps) (λ e. omega (arith, rest)) (λ e. omega (arith, rest))

module _ {X : Type 0} (kind : Kind X) (steady : Steady kind) (fine : (x : X) → kind.good x ≡ true) (n : ℕ) where
  all_fine : (xs : List X) → every kind.good xs ≡ true
  unfolding every
  all_fine [] = refl
  all_fine (x ∷ xs) = rw (fine x) (all_fine xs)

  -- the length of a list of slots stays
  abbrev Sized : ℕ → Result X → Type 0
  Sized m r = length r.slots ≡ m

  batch_sized : (m : ℕ) (xs ys : List X) (i : ℕ) (ps : List Piece) (d : List ℕ) → length xs ≡ m → length ys ≡ m → Sized m (batch kind n xs ys i ps d)
  batch_sized m xs ys i [] d e f = unfold batch in f
  batch_sized m xs ys i (p ∷ ps) d e f =
      let r : Reply X = fed kind (at kind ys p.slot) p d in
      by_first kind n xs ys i p ps d (Sized m) (batch_sized m xs (set ys p.slot r.slot) (suc i) ps d e (length-set ys p.slot r.slot ∙ f)) (λ q. e)

  -- what the slot k makes of its own call, by itself
  own_fault : Bool → ℕ → ℕ
  own_fault good k = cond good (cond (ltb k n) accepted slot_number) bad_record

  own : ℕ → X → Ask → Reply X
  own k x ask = cond (eqb (own_fault (good_ask ask) k) accepted) (reply kind x ask) (record { answer = refusal ask (own_fault (good_ask ask) k); slot = x })

  fault_own : (xs : List X) (good : Bool) (k : ℕ) → fault kind n xs good k ≡ own_fault good k
  unfolding fault own_fault
  fault_own xs good k = rw (all_fine xs)

  module _ (most : ℕ) where
    step_sized : (xs : List X) (c : Call) → Sized (length xs) (step kind n most xs c)
    unfolding step
    step_sized xs (on k ask) =
        either (Sized (length xs)) (eqb (fault kind n xs (good_ask ask) k) accepted) _ _ (λ e. length-set xs k (reply kind (at kind xs k) ask).slot) (λ e. refl)
    step_sized xs (update_many ps used d) =
        either (Sized (length xs)) (every kind.good xs) _ _
        (λ e. either (Sized (length xs)) (leb used most) _ _ (λ h. batch_sized (length xs) xs xs 0 (take used ps) d refl refl) (λ h. refl)) (λ e. refl)

    step_own : (xs : List X) (k : ℕ) (ask : Ask) → length xs ≡ n
        → ((step kind n most xs (on k ask)).answer ≡ (own k (at kind xs k) ask).answer) × (at kind (step kind n most xs (on k ask)).slots k ≡ (own k (at kind xs k) ask).slot)
    unfolding step own
    step_own xs k ask l = split (eqb (own_fault (good_ask ask) k) accepted) refl
      where
        split : (q : Bool) → eqb (own_fault (good_ask ask) k) accepted ≡ q
            → ((step kind n most xs (on k ask)).answer ≡ (own k (at kind xs k) ask).answer) × (at kind (step kind n most xs (on k ask)).slots k ≡ (own k (at kind xs k) ask).slot)
        split true e =
            let same = fault_own xs (good_ask ask) k in
            let there = (no_fault_means kind n xs (good_ask ask) k (same ∙ eqb-true (own_fault (good_ask ask) k) accepted e)).2 in
            (rw (same, e), rw (same, e) (get_or-set_same xs k (reply kind (at kind xs k) ask).slot kind.closed (rw l there)))
        split false e = let same = fault_own xs (good_ask ask) k in (rw (same, e), rw (same, e))

    -- of an accepted batch, the records of the slot k by themselves are accepted too, and leave it the same
    abbrev Same : ℕ → Result X → Result X → Type 0
    Same k r s = (s.answer.number ≡ accepted) × (at kind s.slots k ≡ at kind r.slots k)

    own_records : (k : ℕ) (xs ys us vs : List X) (i j : ℕ) (ps : List Piece) (d : List ℕ) → length ys ≡ n → length vs ≡ n → at kind ys k ≡ at kind vs k
        → (batch kind n xs ys i ps d).answer.number ≡ accepted → Same k (batch kind n xs ys i ps d) (batch kind n us vs j (of_slot k ps) d)
    unfolding of_slot
    own_records k xs ys us vs i j [] d ly lv e z = unfold batch in (refl, sym e)
    own_records k xs ys us vs i j (p ∷ ps) d ly lv e z =
        let t = first_accepted kind n xs ys i p ps d z in
        let r : Reply X = fed kind (at kind ys p.slot) p d in
        let on-xs = goes_on kind n xs ys i p ps d t.0 t.1 in
        let there : p.slot < n = ltb-true p.slot n t.0 in
        let zs : List X = set ys p.slot r.slot in
        let rest : (ws : List X) (m : ℕ) → length ws ≡ n → at kind zs k ≡ at kind ws k → Same k (batch kind n xs zs (suc i) ps d) (batch kind n us ws m (of_slot k ps) d) =
        λ ws m lw f. own_records k xs zs us ws (suc i) m ps d (length-set ys p.slot r.slot ∙ ly) lw f (ap (λ (b : Result X). b.answer.number) (sym on-xs) ∙ z) in
        rw on-xs
        (either (λ (l : List Piece). Same k (batch kind n xs zs (suc i) ps d) (batch kind n us vs j l d)) (eqb p.slot k) (p ∷ of_slot k ps) (of_slot k ps)
        (λ h.
        let same-slot : p.slot ≡ k = eqb-true p.slot k h in
        let same : at kind vs p.slot ≡ at kind ys p.slot = ap (at kind vs) same-slot ∙ sym e ∙ ap (at kind ys) (sym same-slot) in
        let fed-same : fed kind (at kind vs p.slot) p d ≡ r = ap (λ (x : X). fed kind x p d) same in
        let on-us =
        goes_on kind n us vs j p (of_slot k ps) d t.0 (ap (λ (q : Reply X). eqb q.answer.number accepted) fed-same ∙ t.1)
        ∙ ap (λ (q : Reply X). batch kind n us (set vs p.slot q.slot) (suc j) (of_slot k ps) d) fed-same in
        let at-k : (ws : List X) → length ws ≡ n → at kind (set ws p.slot r.slot) k ≡ r.slot = λ ws lw.
        ap (at kind (set ws p.slot r.slot)) (sym same-slot) ∙ get_or-set_same ws p.slot r.slot kind.closed (rw lw there) in
        rw on-us (rest (set vs p.slot r.slot) (suc j) (length-set vs p.slot r.slot ∙ lv) (at-k ys ly ∙ sym (at-k vs lv))))
        (λ h. rest vs j lv (other_slot kind n ys p.slot k r.slot h ∙ e)))

    many_own : (k : ℕ) (xs ys : List X) (ps : List Piece) (used : ℕ) (d : List ℕ) → length xs ≡ n → length ys ≡ n → at kind xs k ≡ at kind ys k
        → (step kind n most xs (update_many ps used d)).answer.number ≡ accepted
        → at kind (step kind n most ys (update_many (of_slot k (take used ps)) (length (of_slot k (take used ps))) d)).slots k ≡ at kind (step kind n most xs (update_many ps used d)).slots k
    unfolding step
    many_own k xs ys ps used d lx ly e z = split (leb used most) refl
      where
        split : (q : Bool) → leb used most ≡ q
            → at kind (step kind n most ys (update_many (of_slot k (take used ps)) (length (of_slot k (take used ps))) d)).slots k ≡ at kind (step kind n most xs (update_many ps used d)).slots k
        split true h =
            let few = few_of_slot k (take used ps) in
            let l = length-take used ps in
            let u = leb-true used most h in
            let fits : length (of_slot k (take used ps)) ≤ most = omega (arith, few, l, u) in
            rw (all_fine xs, all_fine ys, h, le-leb (length (of_slot k (take used ps))) most fits, take-length (of_slot k (take used ps)))
            (own_records k xs xs ys ys 0 0 (take used ps) d lx ly e (rw (all_fine xs, h) at z)).1
        split false h = let w : batch_long ≡ accepted = rw (all_fine xs, h) at z in absurd (omega arith)

    -- whatever the other slots hold and are asked
    abbrev Alike : ℕ → List X → List Answer → List Call → Type 0
    Alike k ys said cs = said ≡ answers_on k cs (answers kind n most ys cs)

    pub alone : (k : ℕ) (cs : List Call) (xs ys : List X) → length xs ≡ n → length ys ≡ n → at kind xs k ≡ at kind ys k
        → Alike k ys (answers_on k cs (answers kind n most xs cs)) (only_on k cs (answers kind n most xs cs))
    unfolding answers answers_on only_on
    alone k [] xs ys lx ly e = refl
    alone k (on j ask ∷ cs) xs ys lx ly e =
        let zs : List X = (step kind n most xs (on j ask)).slots in
        let lz : length zs ≡ n = step_sized xs (on j ask) ∙ lx in
        let rest : (ws : List X) → length ws ≡ n → at kind zs k ≡ at kind ws k → Alike k ws (answers_on k cs (answers kind n most zs cs)) (only_on k cs (answers kind n most zs cs)) =
        λ ws lw f. alone k cs zs ws lz lw f in
        either (λ (l : List Call). Alike k ys (answers_on k (on j ask ∷ cs) (answers kind n most xs (on j ask ∷ cs))) l) (eqb j k)
        (on j ask ∷ only_on k cs (answers kind n most zs cs)) (only_on k cs (answers kind n most zs cs))
        (λ h.
        let same : j ≡ k = eqb-true j k h in
        let ox = step_own xs j ask lx in
        let oy = step_own ys j ask ly in
        let there : at kind xs j ≡ at kind ys j = ap (at kind xs) same ∙ e ∙ ap (at kind ys) (sym same) in
        let says : (step kind n most xs (on j ask)).answer ≡ (step kind n most ys (on j ask)).answer = ox.0 ∙ ap (λ (x : X). (own j x ask).answer) there ∙ sym oy.0 in
        let leaves : at kind zs j ≡ at kind (step kind n most ys (on j ask)).slots j = ox.1 ∙ ap (λ (x : X). (own j x ask).slot) there ∙ sym oy.1 in
        let follow = rest (step kind n most ys (on j ask)).slots (step_sized ys (on j ask) ∙ ly) (ap (at kind zs) (sym same) ∙ leaves ∙ ap (at kind (step kind n most ys (on j ask)).slots) same) in
        rw h (λ i. says i ∷ follow i))
        (λ h. rw h (rest ys ly (other_kept kind n most xs (on j ask) k h ∙ e)))
    alone k (update_many ps used d ∷ cs) xs ys lx ly e =
        let c : Call = update_many ps used d in
        let zs : List X = (step kind n most xs c).slots in
        let lz : length zs ≡ n = step_sized xs c ∙ lx in
        let rest : (ws : List X) → length ws ≡ n → at kind zs k ≡ at kind ws k → Alike k ws (answers_on k cs (answers kind n most zs cs)) (only_on k cs (answers kind n most zs cs)) =
        λ ws lw f. alone k cs zs ws lz lw f in
        let qs : List Piece = of_slot k (take used ps) in
        either (λ (l : List Call). Alike k ys (answers_on k cs (answers kind n most zs cs)) l) (eqb (step kind n most xs c).answer.number accepted)
        (update_many qs (length qs) d ∷ only_on k cs (answers kind n most zs cs)) (only_on k cs (answers kind n most zs cs))
        (λ h.
        rest (step kind n most ys (update_many qs (length qs) d)).slots (step_sized ys (update_many qs (length qs) d) ∙ ly)
        (sym (many_own k xs ys ps used d lx ly e (eqb-true (step kind n most xs c).answer.number accepted h))))
        (λ h. rest ys ly (ap (λ (ws : List X). at kind ws k) (refused_leaves kind n most steady xs c (eqb-false (step kind n most xs c).answer.number accepted h)) ∙ e))
