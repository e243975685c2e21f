-- The same steps on a crate's own record, which holds a buffered state beside other fields.
-- Assumes nothing.
use mathlib.Core.Path.{◌≡◌, refl, ap, ◌∙◌}
use Prim.Native.Nat.{ℕ, ◌+◌, ◌-◌, ◌*◌, ◌≤◌, ◌<◌}
use native.Mathlib.Omega.{arith}
use mathlib.Core.List.{List, [], ◌++◌}
use lib.ListN.{length, take, drop, length-append, take-append-drop}
use lib.Seq.{length-take-le}
use Rattle.laws_blocks.specs.Chain.{spare}
use Rattle.laws_states.specs.Buffer.{Machine, Held, pending, moved}
use Rattle.laws_states.proofs.Buffers.{Lawful, Sound, length_pending}
use Rattle.laws_states.proofs.Steps as steps

-- S holds a Held L: what it holds, and S with another in its place
pub record Store (S L : Type 0) : Type 0 where
  pub core : S → Held L
  pub holding : S → Held L → S
  pub core_holding : (s : S) (h : Held L) → core (holding s h) ≡ h
  pub holding_holding : (s : S) (h k : Held L) → holding (holding s h) k ≡ holding s k
  pub holding_core : (s : S) → holding s (core s) ≡ s

module _ {S L : Type 0} (o : Store S L) (m : Machine L) (lawful : Lawful m) where
  open o use {core, holding, core_holding, holding_holding, holding_core}
  open lawful use {some, wide}

  -- a move of a moved state
  module _ (s f : S) (all : List ℕ) (k : ℕ) (is : f ≡ holding s (moved m (core s) all k)) where
    pub core_is : core f ≡ moved m (core s) all k
    core_is = rw is (core_holding s (moved m (core s) all k))

    pub held_is : (core f).buflen ≡ length all - m.row * k
    unfolding moved
    held_is = rw core_is

    pub count_is : (core f).count ≡ (core s).count + m.step * k
    unfolding moved
    count_is = rw core_is

    pub again : (h : Held L) → holding f h ≡ holding s h
    again h = rw is (holding_holding s (moved m (core s) all k) h)

  -- rows straight from the input, and then the rest
  pub long_made : (s g r : S) (a : List ℕ) (q n : ℕ) → n ≡ m.row * q → n ≤ length a → (core s).buflen ≡ 0 → g ≡ holding s (moved m (core s) (take n a) q)
      → r ≡ holding g (moved m (core g) (pending (core g) ++ drop n a) 0) → r ≡ holding s (moved m (core s) (pending (core s) ++ a) q)
  unfolding pending
  long_made s g r a q n e h none hg hr =
      let z : pending (core s) ≡ [] = rw none in
      hr ∙ again s g (take n a) q hg (moved m (core g) (pending (core g) ++ drop n a) 0)
      ∙ ap (holding s) (steps.straight m lawful (core s) (core g) (moved m (core g) (pending (core g) ++ drop n a) 0) a q n e h z (core_is s g (take n a) q hg) refl)

  -- the buffer is filled by the first of the bytes a, j rows of it go, and the rest comes
  module _ (s : S) (a : List ℕ) (sound : Sound m (core s)) (more : m.room < (core s).buflen + length a)
      (f : S) (filled : f ≡ holding s (moved m (core s) (pending (core s) ++ take (m.room - (core s).buflen) a) 0)) where
    all_length : length (pending (core s) ++ take (m.room - (core s).buflen) a) ≡ m.room
    all_length =
        let l = length_pending m lawful (core s) sound in
        let t : length (take (m.room - (core s).buflen) a) ≡ m.room - (core s).buflen = length-take-le (m.room - (core s).buflen) a (omega arith) in
        rw length-append (omega arith)

    pub filled_held : (core f).buflen ≡ m.room
    filled_held = let l = all_length in omega (arith, held_is s f (pending (core s) ++ take (m.room - (core s).buflen) a) 0 filled)

    pub filled_count : (core f).count ≡ (core s).count
    filled_count = omega (arith, count_is s f (pending (core s) ++ take (m.room - (core s).buflen) a) 0 filled)

    module _ (sized : length (core f).buf ≡ m.room) (e : S) (j : ℕ) (gone : e ≡ holding f (moved m (core f) (pending (core f)) j)) where
      pub gone_held : (core e).buflen ≡ m.room - m.row * j
      gone_held =
          let h = filled_held in
          let l = length_pending m lawful (core f) (record { sized = sized; held = omega arith }) in
          omega (arith, held_is f e (pending (core f)) j gone)

      pub gone_count : (core e).count ≡ (core s).count + m.step * j
      gone_count = omega (arith, count_is f e (pending (core f)) j gone, filled_count)

      pub spill_is : (r : S) (q : ℕ) → r ≡ holding e (moved m (core e) (pending (core e) ++ drop (m.room - (core s).buflen) a) q) → m.row * j ≤ m.room
          → j + q ≡ spare m.row m.need ((core s).buflen + length a)
          → r ≡ holding s (moved m (core s) (pending (core s) ++ a) (spare m.row m.need ((core s).buflen + length a)))
      spill_is r q h k g =
          let l = all_length in
          let room = m.room - (core s).buflen in
          let last = moved m (core e) (pending (core e) ++ drop room a) q in
          let p = steps.spilled m lawful (core s) (core f) (core e) last (take room a) (drop room a) j q (core_is s f (pending (core s) ++ take room a) 0 filled)
          (core_is f e (pending (core f)) j gone) refl (omega arith) in
          h ∙ again f e (pending (core f)) j gone last ∙ again s f (pending (core s) ++ take room a) 0 filled last ∙ ap (holding s) (p ∙ rw (take-append-drop room a, g))
