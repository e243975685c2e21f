-- Document 01's run cases: what the calls answer of an unkeyed state's buffer and leaf count, by the lengths of its updates. The last law shows that
-- the same bytes in other cuts may leave another record; digest and count are fixed all the same. Assumes nothing.
use mathlib.Core.Path.{◌≡◌, refl, ap, ◌∙◌}
use mathlib.Core.Bool.{true, false}
use mathlib.Core.List.{List, ◌++◌}
use Prim.Native.Nat.{ℕ, ◌+◌, ◌-◌, ◌*◌, ◌≤◌}
use native.Mathlib.Omega.{arith}
use lib.ListN.{length, length-append}
use Rattle.laws_blocks.specs.Chain.{spare}
use Rattle.laws_states.specs.Buffer.{gone}
use Rattle.laws_states.specs.Buffer as buffer
use Rattle.laws_states.proofs.Buffers.{Sound}
use Rattle.laws_states.proofs.Buffers as buffers
use Rattle.refusals.specs.Numbers.{accepted, limit}
use Rattle.blake2bp_leaves.specs.Sizes.{blockbytes, rowbytes, outbytes}
use Rattle.blake2bp.specs.Sizes.{roombytes}
use Rattle.blake2bp.specs.Params.{defaults}
use Rattle.blake2bp.specs.State.{core, bounds, machine, keeper, member, pending, total, state_in_range, fresh, reads, updated, leaf_counted, buffered_in}
use Rattle.blake2bp.specs.declared.state.State.{State}
use Rattle.blake2bp.proofs.AnyCuts.{next}
use Rattle.blake2bp.proofs.Cleaned.{good_defaults}
use Rattle.blake2bp.proofs.Fresh.{front_plain, begun}
use Rattle.blake2bp.proofs.States.{lawful, keeper_laws, laws}
use Rattle.members.specs.Keeper.{total_of, range_of}
use Rattle.members.proofs.Cuts.{sound_fresh}
use Rattle.members.proofs.Pieces.{updated_pushed}
use Rattle.members.proofs.Ranges.{ranged}

-- a state of the longest digests without a key that buffers so many bytes, at this leaf count
record Holds (buffered leaf-count : ℕ) (s : State) : Type 0 where
  sound : Sound machine (core s)
  held : s.buf_len ≡ buffered
  counted : s.count.0 ≡ leaf-count
  asked : s.hash_length ≡ outbytes
  plain : s.is_keyed ≡ false

-- what the two read-only calls answer of it
pub record Shows (buffered leaf-count : ℕ) (s : State) : Type 0 where
  pub buffers : buffered_in s ≡ record { number = accepted; buffered = buffered }
  pub counts : leaf_counted s ≡ record { number = accepted; count = record { 0 = leaf-count } }

in_range_lem : (h c : ℕ) (s : State) → Holds h c s → h ≤ roombytes → total_of bounds c h ≤ limit → state_in_range s ≡ true
in_range_lem h c s g few within =
    (λ i. range_of bounds (g.asked i) (g.held i) (g.counted i) (g.plain i))
    ∙ ranged bounds outbytes h c false (record { least = omega arith; most = omega arith; held = few; within = within; front = omega arith })

shows : (h c : ℕ) (s : State) → Holds h c s → h ≤ roombytes → total_of bounds c h ≤ limit → Shows h c s
unfolding buffered_in leaf_counted
shows h c s g few within =
    let r = in_range_lem h c s g few within in
    record {
      buffers = rw r (ap (λ (n : ℕ). record { number = accepted; buffered = n }) g.held);
      counts = rw r (ap (λ (n : ℕ). record { number = accepted; count = record { 0 = n } }) g.counted);
    }

-- an update of n bytes
more : (h c n : ℕ) (s : State) (a : List ℕ) → Holds h c s → length a ≡ n → h ≤ roombytes → total_of bounds c h + n ≤ limit
    → Holds (h + n - rowbytes * gone machine h (h + n)) (c + blockbytes * gone machine h (h + n)) (next s a)
unfolding buffer.pushed buffer.moved updated
more h c n s a g e few within =
    let p : length (pending s) ≡ h = buffers.length_pending machine lawful (core s) g.sound ∙ g.held in
    let l : length (pending s ++ a) ≡ h + n = length-append (pending s) a ∙ (λ i. p i + e i) in
    let k : gone machine (length (pending s)) (length (pending s ++ a)) ≡ gone machine h (h + n) = λ i. gone machine (p i) (l i) in
    let t : total s + length a ≤ limit = omega (arith, g.held, g.counted, e, within) in
    rw (updated_pushed keeper keeper_laws (reads.state accepted) (λ k. reads.state k s) s (in_range_lem h c s g few (omega (arith, within))) a t, next)
    (record {
      sound = buffers.sound_pushed machine lawful (core s) a g.sound;
      held = λ i. l i - rowbytes * k i;
      counted = λ i. g.counted i + blockbytes * k i;
      asked = g.asked;
      plain = g.plain;
    })

empty : Holds 0 0 (fresh defaults)
empty = record {
  sound = sound_fresh member laws defaults (begun defaults good_defaults);
  held = ap length (front_plain defaults good_defaults.whole (omega arith) (omega arith));
  counted = refl;
  asked = refl;
  plain = refl;
}

module _ (a : List ℕ) where
  pub one_of_896 : length a ≡ 896 → Shows 896 0 (next (fresh defaults) a)
  unfolding gone spare limit
  one_of_896 e = shows 896 0 (next (fresh defaults) a) (more 0 0 896 (fresh defaults) a empty e (omega arith) (omega arith)) (omega arith) (omega arith)

  pub one_of_897 : length a ≡ 897 → Shows 385 128 (next (fresh defaults) a)
  unfolding gone spare limit
  one_of_897 e = shows 385 128 (next (fresh defaults) a) (more 0 0 897 (fresh defaults) a empty e (omega arith) (omega arith)) (omega arith) (omega arith)

module _ (a b c : List ℕ) (first : length a ≡ 512) (second : length b ≡ 512) where
  abbrev one : State
  one = next (fresh defaults) a

  abbrev two : State
  two = next one b

  both : Holds 1024 0 two
  unfolding gone spare limit
  both = more 512 0 512 one b (more 0 0 512 (fresh defaults) a empty first (omega arith) (omega arith)) second (omega arith) (omega arith)

  pub two_of_512 : Shows 1024 0 two
  unfolding limit
  two_of_512 = shows 1024 0 two both (omega arith) (omega arith)

  pub then_384 : length c ≡ 384 → Shows 896 128 (next two c)
  unfolding gone spare limit
  then_384 e = shows 896 128 (next two c) (more 1024 0 384 two c both e (omega arith) (omega arith)) (omega arith) (omega arith)

  pub then_385 : length c ≡ 385 → Shows 385 256 (next two c)
  unfolding gone spare limit
  then_385 e = shows 385 256 (next two c) (more 1024 0 385 two c both e (omega arith) (omega arith)) (omega arith) (omega arith)

  -- the same 1,024 bytes at once
  pub at_once : Shows 512 128 (next (fresh defaults) (a ++ b))
  unfolding gone spare limit
  at_once =
      let l = length-append a b ∙ (λ i. first i + second i) in
      shows 512 128 (next (fresh defaults) (a ++ b)) (more 0 0 1024 (fresh defaults) (a ++ b) empty l (omega arith) (omega arith)) (omega arith) (omega arith)
