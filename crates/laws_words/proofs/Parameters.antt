-- The words before the first block, by the fields of the parameter block: the numbers in front, the salt and the personalization.
-- For any family whose numbers fill four words and whose salt fills two. Assumes nothing.
use mathlib.Core.Path.{◌≡◌, refl, sym, ap, ◌∙◌}
use mathlib.Core.List.{List, [], ◌∷◌, ◌++◌, map, append_assoc}
use Prim.Native.Nat.{ℕ, zero, suc, ◌+◌, ◌*◌}
use native.Mathlib.Nat.{suc-mul, zero-mul, zero-add, suc-add, add_comm}
use native.Mathlib.Omega.{arith}
use lib.ListN.{length, take, drop, replicate, length-append, length-replicate, length-drop}
use lib.Seq.{drop-drop, take-append-le, drop-append-le}
use Rattle.definitions.specs.Words.{◌⊕◌, ◌!◌, from, word, bytes, part}
use Rattle.definitions.specs.Family.{Family}
use Rattle.definitions.specs.Hash.{Parameters, parameter_block, words, start}
use Rattle.laws_words.proofs.Bytes.{length_bytes, pad_whole}

-- the numbers of the parameter block, in front of the salt
unfoldable pub numbers : Family → Parameters → List ℕ
numbers f p =
    (p.digest_length ∷ p.key_length ∷ p.fanout ∷ p.depth ∷ [])
    ++ bytes 4 p.leaf_length
    ++ bytes f.offset_bytes p.node_offset
    ++ (p.node_depth ∷ p.inner_length ∷ [])
    ++ replicate f.reserved 0

module _ (f : Family) where
  open f use {ww, IV, offset_bytes, reserved, salt_bytes}

  words_later : (d : List ℕ) (i n : ℕ) → map (λ j. word (part ww d j)) (from (suc i) n) ≡ map (λ j. word (part ww (drop ww d) j)) (from i n)
  words_later d i zero = refl
  words_later d i (suc n) =
      let e : drop (suc i * ww) d ≡ drop (i * ww) (drop ww d) = ap (λ (k : ℕ). drop k d) (suc-mul i ww ∙ add_comm (i * ww) ww) ∙ sym (drop-drop (i * ww) ww d) in
      λ j. word (take ww (e j)) ∷ words_later d (suc i) n j

  words_suc : (n : ℕ) (d : List ℕ) → words f (suc n) d ≡ word (take ww d) ∷ words f n (drop ww d)
  unfolding words
  words_suc n d = λ i. word (take ww (drop (zero-mul ww i) d)) ∷ words_later d 0 n i

  -- the words of two lists, one behind the other, where the first fills its words
  words_append : (k n : ℕ) (a b : List ℕ) → length a ≡ k * ww → words f (k + n) (a ++ b) ≡ words f k a ++ words f n b
  unfolding words
  words_append zero n [] b e = ap (λ (m : ℕ). words f m b) (zero-add n)
  words_append zero n (x ∷ a) b e = absurd (omega (arith, zero-mul ww))
  words_append (suc k) n a b e =
      let l : length a ≡ ww + k * ww = e ∙ suc-mul k ww ∙ add_comm (k * ww) ww in
      ap (λ (m : ℕ). words f m (a ++ b)) (suc-add k n)
      ∙ words_suc (k + n) (a ++ b)
      ∙ (λ i. word (take-append-le ww a b (omega arith) i) ∷ words f (k + n) (drop-append-le ww a b (omega arith) i))
      ∙ ap (λ (r : List ℕ). word (take ww a) ∷ r) (words_append k n (drop ww a) b (simp length-drop (omega arith)))
      ∙ ap (λ (r : List ℕ). r ++ words f n b) (sym (words_suc k a))

  length_numbers : (p : Parameters) → length (numbers f p) ≡ 10 + offset_bytes + reserved
  unfolding numbers
  length_numbers p = simp (length-append, length_bytes, length-replicate) (omega arith)

  module _ (four : 10 + offset_bytes + reserved ≡ 4 * ww) (two : salt_bytes ≡ 2 * ww) where
    words_by_field : (p : Parameters) → length p.salt ≡ salt_bytes → length p.personal ≡ salt_bytes
        → words f 8 (parameter_block f p) ≡ words f 4 (numbers f p) ++ (words f 2 p.salt ++ words f 2 p.personal)
    unfolding parameter_block numbers
    words_by_field p ls lp =
        ap (words f 8) fields
        ∙ words_append 4 4 (numbers f p) (p.salt ++ p.personal) (length_numbers p ∙ four)
        ∙ ap (λ (r : List ℕ). words f 4 (numbers f p) ++ r) (words_append 2 2 p.salt p.personal (ls ∙ two))
      where
        fields : parameter_block f p ≡ numbers f p ++ (p.salt ++ p.personal)
        fields = rw (pad_whole salt_bytes p.salt ls, pad_whole salt_bytes p.personal lp) (append_assoc (numbers f p) p.salt p.personal)

    -- the words that code makes: a of the numbers, and two each of the salt and of the personalization
    pub start_by_field : (p : Parameters) {a : List ℕ} {s₀ s₁ q₀ q₁ : ℕ} → length p.salt ≡ salt_bytes → length p.personal ≡ salt_bytes
        → a ≡ words f 4 (numbers f p) → s₀ ≡ word (part ww p.salt 0) → s₁ ≡ word (part ww p.salt 1)
        → q₀ ≡ word (part ww p.personal 0) → q₁ ≡ word (part ww p.personal 1)
        → map (λ i. (a ++ (s₀ ∷ s₁ ∷ q₀ ∷ q₁ ∷ [])) ! i ⊕ IV ! i) (from 0 8) ≡ start f p
    unfolding start words
    start_by_field p ls lp e e0 e1 e2 e3 =
        ap (λ (x : List ℕ). map (λ i. x ! i ⊕ IV ! i) (from 0 8)) ((λ i. e i ++ (e0 i ∷ e1 i ∷ e2 i ∷ e3 i ∷ [])) ∙ sym (words_by_field p ls lp))
