-- What every crate promises of its calls, in its own records: the members' theorems, read through them.
-- Assumes nothing.
use mathlib.Core.Path.{◌≡◌, sym, ap, ◌∙◌}
use mathlib.Core.Bool.{Bool, true, false, cond}
use mathlib.Core.List.{List, [], ◌∷◌, foldl}
use Prim.Native.Nat.{ℕ, ◌+◌, ◌-◌, ◌≤◌}
use lib.ListN.{length}
use Rattle.std.specs.Prelude.{Result}
use Rattle.laws_states.specs.Buffer.{joined}
use Rattle.laws_states.proofs.Buffers.{Sound}
use Rattle.refusals.specs.Numbers.{accepted, total_over}
use Rattle.refusals.specs.Answers.{number_of, number_in, value_in}
use Rattle.refusals.specs.Tests.{Test, first, tested}
use Rattle.refusals.proofs.Settled.{never_accepted}
use Rattle.refusals.specs.declared.refusal.Refusal.{Refusal}
use Rattle.refusals.proofs.Picks.{tested_ap}
use Rattle.members.specs.Answers.{told}
use Rattle.members.specs.Row.{Call, answers, digested, counted, row}
use Rattle.members.specs.Keeper.{key_row, Keeper, pushed, total, in_range, closed_digest, ask_tests, update_tests, finalized, counts, updated, state_taker}
use Rattle.members.specs.Keeper.{Reads, update_answer, hash_answer, count_answer, taker}
use Rattle.members.specs.Member.{Member, limit, reached, row_taker, one_shot_answer}
use Rattle.members.proofs.Laws.{KeeperLaws, Laws, Begun}
use Rattle.members.proofs.Pieces as pieces
use Rattle.members.proofs.Cuts as cuts
use Rattle.members.proofs.History as histories
use Rattle.members.proofs.OneShot as one_shot

-- what was put into a record is read out of it
pub record Faithful {S U H C : Type 0} (r : Reads S U H C) : Type 0 where
  pub number_of_lem : (n : ℕ) (s : S) → r.number_of (r.state n s) ≡ n
  pub state_of_lem : (n : ℕ) (s : S) → r.state_of (r.state n s) ≡ s
  pub digest_of_lem : (d : List ℕ) → r.digested_of (r.made d) ≡ digested accepted d
  pub none_of : (n : ℕ) → r.digested_of (r.none n) ≡ digested n []
  pub count_of : (n c : ℕ) → r.counted_of (r.count n c) ≡ counted n c

-- where the first test that fails has a refusal's number, that is answered
tested_bad : {A : Type 0} (ts : List Test) (ok : A) (bad : ℕ → A) (e : Refusal) → number_of e ≡ first ts → bad (number_of e) ≡ tested ts ok bad
tested_bad [] ok bad e n = absurd (never_accepted e n)
tested_bad (t ∷ ts) ok bad e n = split t.holds n (tested_bad ts ok bad e)
  where
    split : (b : Bool) → number_of e ≡ cond b (first ts) t.refusal → (number_of e ≡ first ts → bad (number_of e) ≡ tested ts ok bad)
        → bad (number_of e) ≡ cond b (tested ts ok bad) (bad t.refusal)
    split true n rest = rest n
    split false n rest = ap bad n

-- what the calls of a state tell, put into a crate's records
module _ {S L U H C : Type 0} (k : Keeper S L) (r : Reads S U H C) (s : S) where
  -- a refusal by the tests of an update
  pub refused_update : (a : List ℕ) (e : Refusal) → number_of e ≡ first (update_tests k s a) → r.state (number_of e) s ≡ update_answer k r s a
  refused_update a e first_is =
      tested_bad (update_tests k s a) (r.state accepted (pushed k s a)) (λ n. r.state n s) e first_is

  pub told_count : (q : Result ℕ Refusal) → told 0 q ≡ counts k (λ c. (accepted, c)) (λ n. (n, 0)) s
      → r.count (number_in q) (value_in 0 q) ≡ count_answer k r s
  told_count q e =
      let f : ℕ × ℕ → C = λ p. r.count p.0 p.1 in
      ap f e ∙ tested_ap f (ask_tests k s) (accepted, total k s - key_row k.bounds (k.keyed s)) (λ n. (n, 0))

module _ {S L U H C : Type 0} (k : Keeper S L) (r : Reads S U H C) (faithful : Faithful r) where
  open r use {number_of, state_of, digested_of, counted_of}
  open faithful use {number_of_lem, state_of_lem, digest_of_lem, none_of, count_of}

  number_is : (s : S) (a : List ℕ) → (taker k r).number s a ≡ (state_taker k).number s a
  number_is s a =
      tested_ap number_of (update_tests k s a) (r.state accepted (pushed k s a)) (λ n. r.state n s)
      ∙ (λ i. updated k (λ t. number_of_lem accepted t i) (λ n. number_of_lem n s i) s a)

  next_is : (s : S) (a : List ℕ) → (taker k r).next s a ≡ (state_taker k).next s a
  next_is s a =
      tested_ap state_of (update_tests k s a) (r.state accepted (pushed k s a)) (λ n. r.state n s)
      ∙ (λ i. updated k (λ t. state_of_lem accepted t i) (λ n. state_of_lem n s i) s a)

  digested_is : (s : S) → (taker k r).digested s ≡ (state_taker k).digested s
  digested_is s = tested_ap digested_of (ask_tests k s) (r.made (closed_digest k s)) r.none ∙ (λ i. finalized k (λ d. digest_of_lem d i) (λ n. none_of n i) s)

  counted_is : (s : S) → (taker k r).counted s ≡ (state_taker k).counted s
  counted_is s =
      tested_ap counted_of (ask_tests k s) (r.count accepted (total k s - key_row k.bounds (k.keyed s))) (λ n. r.count n 0)
      ∙ (λ i. counts k (λ c. count_of accepted c i) (λ n. count_of n 0 i) s)

  -- the crate's calls are the member's
  pub same_taker : taker k r ≡ state_taker k
  same_taker = λ i. record { number = λ s a. number_is s a i; next = λ s a. next_is s a i; digested = λ s. digested_is s i; counted = λ s. counted_is s i }

  -- an update of no bytes changes nothing
  pub empty_changes_nothing : KeeperLaws k → (s : S) → Sound k.machine (k.core s) → in_range k s ≡ true → update_answer k r s [] ≡ r.state accepted s
  empty_changes_nothing laws s sound good = pieces.empty_changes_nothing k laws (r.state accepted) (λ n. r.state n s) s good sound

module _ {P S L U H C : Type 0} (m : Member P S L) (laws : Laws m) (r : Reads S U H C) (faithful : Faithful r) where
  open r use {number_of, state_of}

  module _ (p : P) (begun : Begun m p) where
    -- whatever a fresh state is asked, it answers as the row of no bytes would
    pub history : (cs : List (Call (List ℕ))) → answers (taker m.keeper r) (m.fresh p) cs ≡ answers (row_taker m) (row p []) cs
    history cs = (λ i. answers (same_taker m.keeper r faithful i) (m.fresh p) cs) ∙ histories.history m laws p begun cs

    module _ (ps : List (List ℕ)) (within : m.ahead p + length (joined ps) ≤ limit m) where
      by_updates : foldl (taker m.keeper r).next (m.fresh p) ps ≡ reached m p ps
      by_updates = (λ i. foldl (λ s a. next_is m.keeper r faithful s a i) (m.fresh p) ps) ∙ cuts.reached_by_updates m laws p begun ps within

      -- in any cuts, once every piece came by an update: the digest is the paper's of the joined bytes, and the count their number
      pub digest_in_any_cuts : hash_answer m.keeper r (foldl (taker m.keeper r).next (m.fresh p) ps) ≡ r.made (m.digest p (joined ps))
      digest_in_any_cuts = ap (hash_answer m.keeper r) by_updates ∙ cuts.digest_reached m laws p begun ps within r.made r.none

      pub count_in_any_cuts : count_answer m.keeper r (foldl (taker m.keeper r).next (m.fresh p) ps) ≡ r.count accepted (length (joined ps))
      count_in_any_cuts = ap (count_answer m.keeper r) by_updates ∙ cuts.count_reached m laws p begun ps within (r.count accepted) (λ n. r.count n 0)

    module _ (a : List ℕ) where
      -- the one-shot answer is that of a state that took the message
      pub one_shot_is_incremental : m.ahead p + length a ≤ limit m
          → one_shot_answer m r p a ≡ hash_answer m.keeper r (state_of (update_answer m.keeper r (m.fresh p) a))
      one_shot_is_incremental within =
          one_shot.one_shot_is_incremental m laws p begun a r.made r.none within ∙ ap (hash_answer m.keeper r) (sym (next_is m.keeper r faithful (m.fresh p) a))

      pub hashed_within : m.ahead p + length a ≤ limit m → one_shot_answer m r p a ≡ r.made (m.digest p a)
      hashed_within within = one_shot.hashed_within m laws p begun a r.made r.none within

      -- through a state: a refusal of the update is that of the hash
      module _ {u : U} (e : u ≡ update_answer m.keeper r (m.fresh p) a) where
        number_of_update : number_of u ≡ (state_taker m.keeper).number (m.fresh p) a
        number_of_update = ap number_of e ∙ number_is m.keeper r faithful (m.fresh p) a

        pub hashed_past : {q : H} → (number_of u ≡ accepted → ⊥) → q ≡ r.none total_over → q ≡ one_shot_answer m r p a
        hashed_past f g = one_shot.hashed_past m laws p begun a r.made r.none number_of_update f g

        pub hashed_through : {q : H} → number_of u ≡ accepted → q ≡ hash_answer m.keeper r (state_of u) → q ≡ one_shot_answer m r p a
        hashed_through f g =
            one_shot.hashed_through m laws p begun a r.made r.none number_of_update f
            (g ∙ ap (hash_answer m.keeper r) (ap state_of e ∙ next_is m.keeper r faithful (m.fresh p) a))

      -- straight, where no key block stands in front
      pub hashed_straight : {q : H} → m.front p ≡ [] → length a ≤ limit m
          → q ≡ r.made (m.keeper.close (m.fresh p) (m.keeper.core (m.fresh p)).at 0 a) → q ≡ one_shot_answer m r p a
      hashed_straight none few e = one_shot.hashed_straight m laws p begun a r.made r.none none few e
