-- The sixteen worked cases of specs/Cases.antt hold: lengths are computed from lengths, and compared with the table by the checker.
-- Assumes nothing.
use mathlib.Core.Path.{◌≡◌, refl, sym, ap, ◌∙◌}
use mathlib.Core.Bool.{Bool, true, false, cond}
use mathlib.Core.List.{List, [], ◌∷◌, ◌++◌, map, flat_map, foldl-append}
use Prim.Native.Nat.{ℕ, suc, ◌+◌, ◌-◌, ◌*◌, ◌/◌, min}
use native.Mathlib.Nat.{zero-add, not-suc-le-zero}
use native.Mathlib.Numerals.{add-one}
use native.Mathlib.Omega.{arith}
use lib.ListN.{length, length-append, length-map}
use Rattle.definitions.specs.Words.{◌!◌, from, part, pad}
use Rattle.definitions.specs.Family.{BLAKE2b}
use Rattle.definitions.specs.Hash.{Call, start, words, parameter_block, keyed, calls}
use Rattle.definitions.specs.Tree.{share, leaf_data, parameters}
use Rattle.definitions.proofs.Lengths.{length_from, length_part, length_pad}
use Rattle.vectors.specs.Cases.{Question, chain, leaves, first_words, Key, seen, summary, Holds, Case, table, Each}

abbrev block : ℕ
block = BLAKE2b.bb

-- lengths alone
abbrev head : Bool → ℕ
head k = cond k block 0

length_keyed : (k : Bool) (key m : List ℕ) → Key k key → length (keyed BLAKE2b key m) ≡ head k + length m
unfolding keyed
length_keyed false [] m h = sym (zero-add (length m))
length_keyed false (x ∷ key) m h = absurd (omega arith)
length_keyed true [] m h = absurd (not-suc-le-zero h.0)
length_keyed true (x ∷ key) m h = length-append (pad block (x ∷ key)) m ∙ ap (λ (n : ℕ). n + length m) (length_pad block (x ∷ key) (omega (arith, h.1)))

sum : (ℕ → ℕ) → List ℕ → ℕ
sum g [] = 0
sum g (x ∷ l) = g x + sum g l

length_flat : (g : ℕ → List ℕ) (h : ℕ → ℕ) → ((x : ℕ) → length (g x) ≡ h x) → (l : List ℕ) → length (flat_map g l) ≡ sum h l
unfolding flat_map sum
length_flat g h e [] = refl
length_flat g h e (x ∷ l) = length-append (g x) (flat_map g l) ∙ (λ i. e x i + length_flat g h e l i)

map_same : (g h : ℕ → ℕ) → ((x : ℕ) → g x ≡ h x) → (l : List ℕ) → map g l ≡ map h l
map_same g h e [] = refl
map_same g h e (x ∷ l) = λ i. e x i ∷ map_same g h e l i

shape : ℕ → List ℕ
shape n = suc ((n - 1) / block) ∷ n ∷ min block (n - (n - 1) / block * block) ∷ []

summary_is : (d : List ℕ) → summary (calls BLAKE2b false d) ≡ shape (length d)
unfolding summary calls shape
summary_is d =
    let n : ℕ = (length d - 1) / block in
    let full : ℕ → Call = λ i. record { block = part block d i; count = (i + 1) * block; last = false; node = false } in
    let end : List Call = record { block = part block d n; count = length d; last = true; node = false } ∷ [] in
    let e : length (map full (from 0 n) ++ end) ≡ suc n =
    length-append (map full (from 0 n)) end ∙ ap (λ (k : ℕ). k + 1) (length-map (from 0 n) full ∙ length_from 0 n) ∙ add-one n in
    λ i. e i ∷ (foldl-append seen [] (map full (from 0 n)) end ∙ ap (λ (k : ℕ). length d ∷ k ∷ []) (length_part block d n)) i

sizes : Bool → ℕ → List ℕ
sizes k n = map (λ i. head k + sum (λ j. min block (n - (i + 4 * j) * block)) (from 0 (suc (n / (4 * block))))) (from 0 4)

predicted : Question → List ℕ
predicted (chain k n) = shape (head k + n)
predicted (leaves k n) = sizes k n
predicted (first_words p places) = map (λ i. start BLAKE2b p ! i) places

chain_holds : (k : Bool) (n : ℕ) (a : List ℕ) → shape (head k + n) ≡ a → Holds (chain k n) a
chain_holds k n a e key m hk hm =
    summary_is (keyed BLAKE2b key m) ∙ ap shape (length_keyed k key m hk ∙ ap (λ (x : ℕ). head k + x) hm) ∙ e

leaves_hold : (k : Bool) (n : ℕ) (a : List ℕ) → sizes k n ≡ a → Holds (leaves k n) a
unfolding sizes share leaf_data
leaves_hold k n a e key m hk hm =
    map_same (λ i. length (leaf_data BLAKE2b 4 key m i)) (λ i. head k + sum (λ j. min block (length m - (i + 4 * j) * block)) (from 0 (suc (length m / (4 * block)))))
    (λ i. length_keyed k key (share block 4 m i) hk
    ∙ ap (λ (x : ℕ). head k + x)
    (length_flat (λ j. part block m (i + 4 * j)) (λ j. min block (length m - (i + 4 * j) * block))
    (λ j. length_part block m (i + 4 * j)) (from 0 (suc (length m / (4 * block))))))
    (from 0 4)
    ∙ ap (sizes k) hm ∙ e

sound : (q : Question) (a : List ℕ) → predicted q ≡ a → Holds q a
unfolding predicted
sound (chain k n) a e = chain_holds k n a e
sound (leaves k n) a e = leaves_hold k n a e
sound (first_words p places) a e = e

first : Case → List (List ℕ) → List ℕ
first c [] = c.answer
first c (x ∷ l) = x

rest : List (List ℕ) → List (List ℕ)
rest [] = []
rest (x ∷ l) = l

each : (t : List Case) → map (λ c. predicted c.question) t ≡ map (λ c. c.answer) t → Each t
unfolding first rest
each [] e = tt
each (c ∷ t) e = (sound c.question c.answer (ap (first c) e), each t (ap rest e))

pub worked : Each table
unfolding table predicted shape sizes sum start words parameter_block pad parameters
worked = each table refl
