-- `words::write_words` meets its contract: the bytes of a word more, and at the end those of all eight.
-- Assumes nothing.
use mathlib.Core.Path.{◌≡◌, refl, sym, ap, ◌∙◌}
use mathlib.Core.List.{List, [], ◌∷◌, ◌++◌, flat_map, append_assoc, append-nil}
use Prim.Native.Nat.{ℕ, zero, suc, ◌+◌, ◌-◌, ◌*◌, ◌/◌, ◌%◌, ◌^◌, ◌<◌, ◌≤◌}
use native.Mathlib.Nat.{div-one, div-div-eq-div-mul, pow-suc}
use native.Mathlib.Omega.{arith}
use borrow.Author.Rules.{rules}
use borrow.Rule.Slice.PartMut.{put_mid, same_len_mid}
use lib.ListN.{length, take}
use Rattle.std.proofs.lemmas.List.{take_more, take_all}
use Rattle.std.proofs.lemmas.Slice.{take-put_mid}
use Rattle.std.specs.Int.{byte_at, bytes_low_first}
use Rattle.definitions.specs.Words.{◌!◌, bytes}
use Rattle.definitions.specs.Hash.{state_bytes}
use Rattle.words.proofs.write_words.Goals as goal
use Rattle.words.proofs.write_words.Goals.{Start}

eight : (c : Start) → length c.args.h ≡ 8
eight c = search rules

flat_append : (f : ℕ → List ℕ) (a b : List ℕ) → flat_map f (a ++ b) ≡ flat_map f a ++ flat_map f b
unfolding flat_map
flat_append f [] b = refl
flat_append f (x ∷ a) b = ap (λ (r : List ℕ). f x ++ r) (flat_append f a b) ∙ sym (append_assoc (f x) (flat_map f a) (flat_map f b))

flat_one : (f : ℕ → List ℕ) (x : ℕ) → flat_map f (x ∷ []) ≡ f x
unfolding flat_map
flat_one f x = append-nil (f x)

-- where the bytes of the first i words stand in front, and then those of the word i
word_more : (f : ℕ → List ℕ) (out h e : List ℕ) (i n m k : ℕ) → i < length h → n ≤ length out → k ≡ n + length e → e ≡ f (h ! i)
    → take n out ≡ flat_map f (take i h) → take k (put_mid n m out e) ≡ flat_map f (take (i + 1) h)
word_more f out h e i n m k b l w is before =
    take-put_mid n m out e k w l ∙ (λ j. before j ++ is j)
    ∙ sym (ap (flat_map f) (take_more h i 0 b) ∙ flat_append f (take i h) (h ! i ∷ []) ∙ ap (λ (r : List ℕ). flat_map f (take i h) ++ r) (flat_one f (h ! i)))

-- what std calls the eight bytes of a word
le_bytes : (i k x : ℕ) → bytes_low_first i k x ≡ bytes k (x / 256 ^ i)
le_bytes i zero x = refl
le_bytes i (suc k) x = λ j. byte i x j ∷ (le_bytes (suc i) k x ∙ ap (bytes k) (next i x)) j
  where
    byte : (i x : ℕ) → byte_at i x ≡ x / 256 ^ i % 256
    byte zero x = ap (λ (y : ℕ). y % 256) (sym (div-one x))
    byte (suc i) x = refl

    next : (i x : ℕ) → x / 256 ^ suc i ≡ x / 256 ^ i / 256
    next i x = ap (λ (p : ℕ). x / p) (pow-suc 256 i) ∙ sym (div-div-eq-div-mul x (256 ^ i) 256)

pub loop-i-init : goal.loop-i-init
unfolding flat_map
loop-i-init c = (refl, refl)

pub loop-i-preserved : goal.loop-i-preserved
loop-i-preserved c =
    let l = c.loop-i in
    let h = c.args.h in
    let e = c.copy_from_slice.new.self in
    let is : e ≡ bytes 8 (h ! l.i) =
    c.copy_from_slice.ensures.after ∙ c.to_le_bytes.ensures ∙ le_bytes 0 8 (h ! l.i) ∙ ap (bytes 8) (div-one (h ! l.i)) in
    let long : length e ≡ 8 = ap length is in
    let n = eight (goal.at.loop-i-preserved c).Start in (
      same_len_mid (l.i * 8) (l.i * 8 + 8 - l.i * 8) l.out e c.copy_from_slice.ensures.len ∙ l.invariant.0,
      word_more (bytes 8) l.out h e l.i (l.i * 8) (l.i * 8 + 8 - l.i * 8) ((l.i + 1) * 8) (omega arith) (omega arith) (omega arith) is l.invariant.1,
    )

pub returns : goal.returns
unfolding state_bytes
returns c =
    let l = c.loop-i in
    let n = eight (goal.at.returns c).Start in
    let i : l.i ≡ 8 = omega arith in
    sym (take_all (l.i * 8) l.out (omega arith)) ∙ l.invariant.1 ∙ ap (flat_map (bytes 8)) (take_all l.i c.args.h (omega arith))
