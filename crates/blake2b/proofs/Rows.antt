-- The history of one state: to any updates, flags, digests and counts, in any order and any cuts, it answers as the row of its parameters and
-- the bytes accepted would. So asking changes nothing, and asked twice it answers the same. Assumes nothing.
use mathlib.Core.Path.{◌≡◌, refl, sym, ap, ◌∙◌}
use mathlib.Core.Bool.{Bool, true, false, cond}
use mathlib.Core.List.{List, [], ◌∷◌, ◌++◌}
use Prim.Native.Nat.{ℕ, zero, suc, ◌+◌, ◌≤◌}
use native.Mathlib.Omega.{arith}
use borrow.Author.Tests.{le-leb, leb-true}
use lib.Dec.{leb}
use lib.ListN.{length, take, length-append}
use Rattle.definitions.specs.Words.{pad}
use Rattle.definitions.specs.Family.{BLAKE2b}
use Rattle.definitions.specs.Hash.{keyed, untruncated, hash}
use Rattle.laws_states.specs.Buffer.{joined}
use Rattle.laws_states.proofs.Buffers.{Sound}
use Rattle.laws_states.proofs.Buffers as buffers
use Rattle.refusals.specs.Numbers.{accepted, total_over, limit}
use Rattle.refusals.proofs.Limits.{wide}
use Rattle.members.specs.Row.{Call, answers, digested, counted, Row, row}
use Rattle.members.specs.Keeper as keeping
use Rattle.members.specs.Member as calls
use Rattle.members.proofs.Alike.{Alike, alike_answers}
use Rattle.members.proofs.Laws.{Begun}
use Rattle.members.proofs.Pieces as pieces
use Rattle.members.proofs.Cuts as cuts
use Rattle.members.proofs.Promises as promises
use Rattle.blake2b.specs.Params.{in_range, asked, front, key_of, with_last_node, Clean}
use Rattle.blake2b_state.specs.Sizes.{blockbytes}
use Rattle.blake2b_state.specs.State.{key_front, keeper, core, holding, machine, pushed, state_in_range, updated, finalized, last_node_set, closed_digest, reads}
use Rattle.blake2b.specs.Member.{fresh, member}
use Rattle.blake2b.specs.Member as own
use Rattle.blake2b_state.specs.State as state
use Rattle.blake2b.specs.Row.{Change, update, set_last_node, state_taker, row_taker, state_calls, row_calls}
use Rattle.blake2b.specs.declared.params.Params.{Params}
use Rattle.blake2b_state.specs.declared.state.State.{State}
use Rattle.blake2b.proofs.Members.{laws, front_short, sound_fresh, begun}
use Rattle.blake2b_state.proofs.States as states
use Rattle.blake2b_state.proofs.States.{lawful, tight, faithful}

-- the bytes of two updates are those of one
pub pushed_pushed : (s : State) (a b : List ℕ) → pushed (pushed s a) b ≡ pushed s (a ++ b)
pushed_pushed s a b = ap (holding s) (buffers.pushed_pushed machine lawful tight (core s) a b)

-- no bytes change nothing
pub pushed_none : (s : State) → Sound machine (core s) → pushed s [] ≡ s
pushed_none s sound = pieces.pushed_none keeper states.laws s sound

-- behind the key block, the message: what the definitions hash
block_keyed : (n : ℕ) (b m : List ℕ) → length b ≡ blockbytes → b ≡ pad blockbytes (take n b) → cond (leb 1 n) b [] ++ m ≡ keyed BLAKE2b (take n b) m
unfolding keyed
block_keyed zero b m l e = refl
block_keyed (suc n) [] m l e = absurd (omega arith)
block_keyed (suc n) (x ∷ b) m l e = rw (le-leb 1 (suc n) (omega arith)) (ap (λ (d : List ℕ). d ++ m) e)

pub front_keyed : (p : Params) → Clean p → (m : List ℕ) → front p ++ m ≡ keyed BLAKE2b (key_of p) m
unfolding key_front
front_keyed p clean m = block_keyed p.key_length p.key_block m clean.whole clean.filled

-- the digest is RFC 7693's
pub digest_is_hash : (p : Params) → Clean p → (m : List ℕ) → own.digest p m ≡ hash BLAKE2b (asked p) p.last_node (key_of p) m
unfolding hash
digest_is_hash p clean m = ap (λ (d : List ℕ). take p.hash_length (untruncated BLAKE2b (asked p) p.last_node d)) (front_keyed p clean m)

-- the state of pieces, in any number and any cuts, empty ones included, has RFC 7693's digest of their bytes
pub digest_of_pieces : (p : Params) → Clean p → in_range p ≡ true → (ps : List (List ℕ))
    → closed_digest (calls.reached member p ps) ≡ hash BLAKE2b (asked p) p.last_node (key_of p) (joined ps)
digest_of_pieces p clean good ps = cuts.digest_of_pieces member laws p (begun p clean.whole good) ps ∙ digest_is_hash p clean (joined ps)

-- the state that a row stands for: one update brought all its bytes
abbrev pub state_of : Row Params → State
state_of r = pushed (fresh r.params) r.bytes

-- a row as calls make it: its parameters are as the setters leave them, and its total is within the limit
pub record Reached (r : Row Params) : Type 0 where
  pub clean : Clean r.params
  pub good : in_range r.params ≡ true
  pub within : length (front r.params) + length r.bytes ≤ limit

module _ (r : Row Params) (reached : Reached r) where
  abbrev p : Params
  p = r.params

  abbrev bytes : List ℕ
  bytes = r.bytes

  b : Begun member p
  b = begun p reached.clean.whole reached.good

  one : length (front p) + length (joined (bytes ∷ [])) ≤ limit
  one = rw (cuts.joined_one bytes) reached.within

  length_keyed : length (front p) + length bytes ≡ length (keyed BLAKE2b (key_of p) bytes)
  length_keyed = sym (length-append (front p) bytes) ∙ ap length (front_keyed p reached.clean bytes)

  abbrev fits : List ℕ → Bool
  fits a = leb (length (keyed BLAKE2b (key_of p) bytes) + length a) limit

  pub range_reached : state_in_range (state_of r) ≡ true
  range_reached = cuts.range_reached member laws p b (bytes ∷ []) one

  -- an update, by the row's test: the bytes of two are those of one
  by_test : {A : Type 0} (ok : State → A) (bad : ℕ → A) (a : List ℕ)
      → keeping.updated keeper ok bad (state_of r) a ≡ cond (fits a) (ok (pushed (fresh p) (bytes ++ a))) (bad total_over)
  by_test ok bad a =
      let total = ap (λ (d : List ℕ). length (front p) + length d) (cuts.joined_one bytes) ∙ length_keyed in
      cuts.update_reached member laws p b (bytes ∷ []) one ok bad a
      ∙ (λ i. cond (leb (total i + length a) limit) (ok (pushed_pushed (fresh p) bytes a i)) (bad total_over))

  same_taker : state_taker ≡ keeping.state_taker keeper
  unfolding updated finalized state.counted
  same_taker = promises.same_taker keeper reads faithful

  -- each call answers as the row's
  pub says_number : (a : List ℕ) → state_taker.number (state_of r) a ≡ row_taker.number r a
  says_number a = (λ i. (same_taker i).number (state_of r) a) ∙ by_test (λ t. accepted) (λ n. n) a

  pub says_next : (a : List ℕ) → state_taker.next (state_of r) a ≡ state_of (row_taker.next r a)
  says_next a = (λ i. (same_taker i).next (state_of r) a) ∙ by_test (λ t. t) (λ n. state_of r) a ∙ split (fits a)
    where
      split : (c : Bool) → cond c (pushed (fresh p) (bytes ++ a)) (state_of r) ≡ pushed (fresh p) (cond c (bytes ++ a) bytes)
      split true = refl
      split false = refl

  pub says_digest : state_taker.digested (state_of r) ≡ row_taker.digested r
  says_digest =
      (λ i. (same_taker i).digested (state_of r)) ∙ cuts.digest_reached member laws p b (bytes ∷ []) one (digested accepted) (λ n. digested n [])
      ∙ ap (λ (d : List ℕ). digested accepted (own.digest p d)) (cuts.joined_one bytes) ∙ ap (digested accepted) (digest_is_hash p reached.clean bytes)

  -- the count is the number of message bytes, the key block not counted
  pub says_count : state_taker.counted (state_of r) ≡ row_taker.counted r
  says_count =
      (λ i. (same_taker i).counted (state_of r)) ∙ cuts.count_reached member laws p b (bytes ∷ []) one (counted accepted) (λ n. counted n 0)
      ∙ ap (λ (d : List ℕ). counted accepted (length d)) (cuts.joined_one bytes)

  -- what a row owes, it owes after each call
  pub stays_reached : (a : List ℕ) → Reached (row_taker.next r a)
  stays_reached a = record { clean = reached.clean; good = reached.good; within = split (fits a) refl }
    where
      split : (c : Bool) → fits a ≡ c → length (front p) + length (cond c (bytes ++ a) bytes) ≤ limit
      split true e =
          let n = length-append bytes a in
          let l = length_keyed in
          omega (arith, leb-true (length (keyed BLAKE2b (key_of p) bytes) + length a) limit e)
      split false e = reached.within

  -- a flag that is set later is that of the parameters: digests from then on are those with it
  pub says_flag : (up : Bool) → last_node_set (state_of r) up ≡ record { number = accepted; state = state_of (row (with_last_node up p) bytes) }
  unfolding last_node_set key_front
  says_flag up = rw range_reached

  pub flag_reached : (up : Bool) → Reached (row (with_last_node up p) bytes)
  unfolding in_range key_front
  flag_reached up =
      record { clean = record { whole = reached.clean.whole; filled = reached.clean.filled }; good = reached.good; within = reached.within }

pub opened_reached : (p : Params) → Clean p → in_range p ≡ true → Reached (row p [])
opened_reached p clean good = let f = front_short p clean.whole in record { clean = clean; good = good; within = omega (arith, wide) }

pub opened_state : (p : Params) → Clean p → state_of (row p []) ≡ fresh p
opened_state p clean = pushed_none (fresh p) (sound_fresh p clean.whole)

-- a state is that of its row
record Like (s : State) (r : Row Params) : Type 0 where
  is : s ≡ state_of r
  reached : Reached r

stays_alike : Alike state_calls row_calls Like
stays_alike = record {
  number = number;
  next = next;
  digested = λ s r e. ap state_taker.digested e.is ∙ says_digest r e.reached;
  counted = λ s r e. ap state_taker.counted e.is ∙ says_count r e.reached;
}
  where
    number : (s : State) (r : Row Params) (a : Change) → Like s r → state_calls.number s a ≡ row_calls.number r a
    number s r (update a) e = ap (λ (t : State). state_taker.number t a) e.is ∙ says_number r e.reached a
    number s r (set_last_node up) e = ap (λ (t : State). (last_node_set t up).number) e.is ∙ ap (λ u. u.number) (says_flag r e.reached up)

    next : (s : State) (r : Row Params) (a : Change) → Like s r → Like (state_calls.next s a) (row_calls.next r a)
    next s r (update a) e = record { is = ap (λ (t : State). state_taker.next t a) e.is ∙ says_next r e.reached a; reached = stays_reached r e.reached a }
    next s r (set_last_node up) e =
        record { is = ap (λ (t : State). (last_node_set t up).state) e.is ∙ ap (λ u. u.state) (says_flag r e.reached up); reached = flag_reached r e.reached up }

-- whatever a fresh state is asked, it answers as the row of no bytes would
pub history : (p : Params) → Clean p → in_range p ≡ true → (cs : List (Call Change)) → answers state_calls (fresh p) cs ≡ answers row_calls (row p []) cs
history p clean good cs =
    alike_answers state_calls row_calls Like stays_alike cs (fresh p) (row p []) (record { is = sym (opened_state p clean); reached = opened_reached p clean good })
