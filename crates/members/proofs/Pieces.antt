-- Pieces that come to a state, in any number and any cuts: its digest is that of all the bytes at once, its total grows by their number, and it
-- stays in range as long as that stays within the limit. Assumes nothing.
use mathlib.Core.Path.{◌≡◌, refl, sym, ap, ◌∙◌}
use mathlib.Core.Bool.{true}
use mathlib.Core.List.{List, [], ◌∷◌, ◌++◌, foldl}
use Prim.Native.Nat.{ℕ, ◌+◌, ◌≤◌}
use native.Mathlib.Omega.{arith}
use borrow.Author.Tests.{le-leb}
use lib.ListN.{length, length-append}
use Rattle.laws_states.specs.Buffer.{Held, joined, closed}
use Rattle.laws_states.specs.Buffer as buffer
use Rattle.laws_states.proofs.Buffers.{Sound}
use Rattle.laws_states.proofs.Buffers as buffers
use Rattle.laws_states.proofs.TwoRows as rows
use Rattle.members.specs.Keeper.{total_of, key_row, Keeper, pending, pushed, total, in_range, closed_digest, updated, state_taker}
use Rattle.members.proofs.Laws.{KeeperLaws}
use Rattle.members.proofs.Ranges.{in_range_lem, ranged}

module _ {S L : Type 0} (k : Keeper S L) (laws : KeeperLaws k) where
  open k use {bounds, machine, core, holding}
  open laws use {lawful, core_holding, holding_holding, holding_core, same_length, same_key, same_close}

  pub pieces_are : (s : S) (ps : List (List ℕ)) → foldl (pushed k) s ps ≡ holding s (buffer.after machine (core s) ps)
  unfolding buffer.after
  pieces_are s [] = sym (holding_core s)
  pieces_are s (a ∷ ps) =
      let h : Held L = buffer.pushed machine (core s) a in
      pieces_are (pushed k s a) ps ∙ rw (core_holding s h, holding_holding s h (buffer.after machine h ps))

  sound_after : (h : Held L) (ps : List (List ℕ)) → Sound machine h → Sound machine (buffer.after machine h ps)
  unfolding buffer.after
  sound_after h [] e = e
  sound_after h (a ∷ ps) e = sound_after (buffer.pushed machine h a) ps (buffers.sound_pushed machine lawful h a e)

  module _ (s : S) (ps : List (List ℕ)) where
    abbrev t : S
    t = foldl (pushed k) s ps

    abbrev h : Held L
    h = buffer.after machine (core s) ps

    pub core_pieces : core t ≡ h
    core_pieces = ap core (pieces_are s ps) ∙ core_holding s h

    pub length_pieces : k.hash_length t ≡ k.hash_length s
    length_pieces = ap k.hash_length (pieces_are s ps) ∙ same_length s h

    pub key_pieces : k.keyed t ≡ k.keyed s
    key_pieces = ap k.keyed (pieces_are s ps) ∙ same_key s h

    pub closed_pieces : closed_digest k t ≡ k.close s (core s).at (core s).count (pending k s ++ joined ps)
    unfolding closed
    closed_pieces =
        (λ i. (ap k.close (pieces_are s ps) ∙ same_close s h) i (core_pieces i).at (core_pieces i).count (buffer.pending (core_pieces i)))
        ∙ buffers.closed_after machine lawful (k.close s) (laws.late s) (core s) ps

    module _ (sound : Sound machine (core s)) where
      pub total_pieces : total k t ≡ total k s + length (joined ps)
      unfolding buffer.tally
      total_pieces =
          ap (λ (x : Held L). total_of bounds x.count x.buflen) core_pieces
          ∙ buffers.tally_after machine lawful bounds.unit laws.whole (core s) ps sound

      pub sound_pieces : Sound machine (core t)
      sound_pieces = rw core_pieces (sound_after (core s) ps sound)

      pub range_pieces : in_range k s ≡ true → total k s + length (joined ps) ≤ bounds.limit → in_range k t ≡ true
      range_pieces e few =
          let r = in_range_lem bounds (k.hash_length s) (core s).buflen (core s).count (k.keyed s) e in
          let n = total_pieces in
          let l = length_pieces in
          let y : key_row bounds (k.keyed t) ≡ key_row bounds (k.keyed s) = ap (key_row bounds) key_pieces in
          ranged bounds (k.hash_length t) (core t).buflen (core t).count (k.keyed t)
          (record {
            least = omega (arith, r.least);
            most = omega (arith, r.most);
            held = omega (arith, sound_pieces.held, laws.room);
            within = omega arith;
            front = omega (arith, r.front);
          })

  pub pushed_none : (s : S) → Sound machine (core s) → pushed k s [] ≡ s
  pushed_none s sound = ap (holding s) (rows.pushed_none machine lawful (core s) sound) ∙ holding_core s

  module _ {A : Type 0} (ok : S → A) (bad : ℕ → A) (s : S) (good : in_range k s ≡ true) where
    -- an update within the limit takes every byte
    pub updated_pushed : (a : List ℕ) → total k s + length a ≤ bounds.limit → updated k ok bad s a ≡ ok (pushed k s a)
    updated_pushed a few = rw (good, le-leb (total k s + length a) bounds.limit few)

    pub empty_changes_nothing : Sound machine (core s) → updated k ok bad s [] ≡ ok s
    empty_changes_nothing sound =
        let r = in_range_lem bounds (k.hash_length s) (core s).buflen (core s).count (k.keyed s) good in
        updated_pushed [] (omega (arith, r.within)) ∙ ap ok (pushed_none s sound)

  -- so do updates of any pieces
  pub next_is_pushed : (s : S) (ps : List (List ℕ)) → Sound machine (core s) → in_range k s ≡ true → total k s + length (joined ps) ≤ bounds.limit
      → foldl (state_taker k).next s ps ≡ foldl (pushed k) s ps
  unfolding joined
  next_is_pushed s [] sound good within = refl
  next_is_pushed s (a ∷ ps) sound good within =
      let n = length-append a (joined ps) in
      let one = length-append a [] in
      let few : total k s + length (joined (a ∷ [])) ≤ bounds.limit = omega (arith, within) in
      let t : total k (pushed k s a) ≡ total k s + length (joined (a ∷ [])) = total_pieces s (a ∷ []) sound in
      ap (λ (u : S). foldl (state_taker k).next u ps) (updated_pushed (λ t. t) (λ n. s) s good a (omega (arith, within)))
      ∙ next_is_pushed (pushed k s a) ps (sound_pieces s (a ∷ []) sound) (range_pieces s (a ∷ []) sound good few) (omega (arith, t, within))
