-- A fresh state and the pieces of a message: in any cuts its digest is the paper's of the joined bytes, and its count their number.
-- Assumes nothing.
use mathlib.Core.Path.{◌≡◌, sym, ap, ◌∙◌}
use mathlib.Core.Bool.{Bool, true, false, cond}
use mathlib.Core.List.{List, [], ◌∷◌, ◌++◌, foldl, append-nil, append_assoc}
use Prim.Native.Nat.{ℕ, ◌+◌, ◌-◌, ◌≤◌}
use native.Mathlib.Omega.{arith}
use lib.Dec.{leb}
use lib.ListN.{length, replicate}
use lib.Seq.{take-append_seam}
use Rattle.definitions.specs.Words.{pad}
use Rattle.definitions.proofs.Lengths.{length_pad}
use Rattle.laws_states.specs.Buffer.{Held, joined}
use Rattle.laws_states.specs.Buffer as buffer
use Rattle.laws_states.proofs.Buffers.{Sound}
use Rattle.laws_states.proofs.TwoRows as rows
use Rattle.refusals.specs.Numbers.{total_over}
use Rattle.refusals.proofs.Lengths.{length_bounds}
use Rattle.members.specs.Keeper.{total_of, key_row, pending, pushed, total, in_range, closed_digest, updated, finalized, counts, state_taker}
use Rattle.members.specs.Member.{Member, limit, reached}
use Rattle.members.proofs.Laws.{Laws, Begun}
use Rattle.members.proofs.Pieces.{core_pieces, key_pieces, closed_pieces, total_pieces, range_pieces, next_is_pushed}
use Rattle.members.proofs.Ranges.{ranged}

-- one piece more, and one piece alone
pub joined_more : (ps : List (List ℕ)) (a : List ℕ) → joined (ps ++ (a ∷ [])) ≡ joined ps ++ a
unfolding joined
joined_more [] a = append-nil a
joined_more (b ∷ ps) a = ap (λ (l : List ℕ). b ++ l) (joined_more ps a) ∙ sym (append_assoc b (joined ps) a)

pub joined_one : (a : List ℕ) → joined (a ∷ []) ≡ a
unfolding joined
joined_one a = append-nil a

minus : (x y z : ℕ) → z ≡ x + y → z - x ≡ y
minus x y z e = omega arith

module _ {P S L : Type 0} (m : Member P S L) (laws : Laws m) (p : P) (begun : Begun m p) where
  open m use {keeper}
  open keeper use {bounds, machine, core}

  key_within : (b : Bool) → (key_row bounds b ≤ limit m) × (key_row bounds b ≤ bounds.room)
  key_within true = (laws.key_fits, laws.key_held)
  key_within false = (omega arith, omega arith)

  pub front_short : length (m.front p) ≤ bounds.room
  front_short = let k = key_within (keeper.keyed (m.fresh p)) in omega (arith, begun.ahead_is, begun.front_is)

  pub ahead_within : m.ahead p ≤ limit m
  ahead_within = let k = key_within (keeper.keyed (m.fresh p)) in omega (arith, begun.ahead_is)

  pub pending_fresh : pending keeper (m.fresh p) ≡ m.front p
  unfolding buffer.pending pad
  pending_fresh = ap buffer.pending (laws.starts p) ∙ take-append_seam (m.front p) (replicate (bounds.room - length (m.front p)) 0)

  pub sound_fresh : Sound machine (core (m.fresh p))
  sound_fresh =
      rw (laws.starts p)
      (record { sized = length_pad bounds.room (m.front p) front_short ∙ sym laws.keeper.room; held = omega (arith, front_short, laws.keeper.room) })

  pub total_fresh : total keeper (m.fresh p) ≡ m.ahead p
  total_fresh = ap (λ (h : Held L). total_of bounds h.count h.buflen) (laws.starts p) ∙ omega (arith, begun.front_is)

  pub range_fresh : in_range keeper (m.fresh p) ≡ true
  range_fresh =
      let s = m.fresh p in
      let t = total_fresh in
      let d = length_bounds bounds.most (keeper.hash_length s) begun.asked in
      ranged bounds (keeper.hash_length s) (core s).buflen (core s).count (keeper.keyed s)
      (record {
        least = d.0;
        most = d.1;
        held = omega (arith, sound_fresh.held, laws.keeper.room);
        within = omega (arith, ahead_within);
        front = omega (arith, begun.ahead_is);
      })

  module _ (ps : List (List ℕ)) where
    abbrev s : S
    s = reached m p ps

    pub total_reached : total keeper s ≡ m.ahead p + length (joined ps)
    total_reached = total_pieces keeper laws.keeper (m.fresh p) ps sound_fresh ∙ ap (λ (n : ℕ). n + length (joined ps)) total_fresh

    -- THE theorem: in any cuts, the digest is the paper's of the joined bytes
    pub digest_of_pieces : closed_digest keeper s ≡ m.digest p (joined ps)
    digest_of_pieces =
        closed_pieces keeper laws.keeper (m.fresh p) ps
        ∙ (λ i. keeper.close (m.fresh p) (core (m.fresh p)).at (laws.starts p i).count (pending_fresh i ++ joined ps))
        ∙ begun.digest_is (joined ps)

    pub count_of_pieces : total keeper s - key_row bounds (keeper.keyed s) ≡ length (joined ps)
    count_of_pieces =
        (λ i. total keeper s - (ap (key_row bounds) (key_pieces keeper laws.keeper (m.fresh p) ps) ∙ sym begun.ahead_is) i)
        ∙ minus (m.ahead p) (length (joined ps)) (total keeper s) total_reached

    -- behind the bytes that wait, the buffer is zero
    pub zeros_behind : (core s).buf ≡ pad machine.room (pending keeper s)
    zeros_behind =
        let filled = ap (λ (h : Held L). h.buf) (laws.starts p) ∙ (λ i. pad (sym laws.keeper.room i) (sym pending_fresh i)) in
        rw (core_pieces keeper laws.keeper (m.fresh p) ps) (rows.zeros_behind machine laws.keeper.lawful (core (m.fresh p)) ps filled)

    module _ (within : m.ahead p + length (joined ps) ≤ limit m) where
      pub range_reached : in_range keeper s ≡ true
      range_reached = range_pieces keeper laws.keeper (m.fresh p) ps sound_fresh range_fresh (rw total_fresh within)

      -- updates lead there
      pub reached_by_updates : foldl (state_taker keeper).next (m.fresh p) ps ≡ s
      reached_by_updates = next_is_pushed keeper laws.keeper (m.fresh p) ps sound_fresh range_fresh (rw total_fresh within)

      module _ {A : Type 0} where
        pub digest_reached : (ok : List ℕ → A) (bad : ℕ → A) → finalized keeper ok bad s ≡ ok (m.digest p (joined ps))
        digest_reached ok bad = rw range_reached (ap ok digest_of_pieces)

        pub count_reached : (ok bad : ℕ → A) → counts keeper ok bad s ≡ ok (length (joined ps))
        count_reached ok bad = rw range_reached (ap ok count_of_pieces)

        -- an update, by the row's test
        pub update_reached : (ok : S → A) (bad : ℕ → A) (a : List ℕ)
            → updated keeper ok bad s a ≡ cond (leb (m.ahead p + length (joined ps) + length a) (limit m)) (ok (pushed keeper s a)) (bad total_over)
        update_reached ok bad a = rw (range_reached, total_reached)
