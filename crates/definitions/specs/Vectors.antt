-- A digest of each kind, and a state after one call of F, computed by the checker from the definitions, and what others say they are:
-- the RFC's appendices, libb2 and the designers' published answers, as tests/vectors/make prints them. Assumes nothing.
use Rattle.std.specs.Prelude.{◌≡◌, refl, Bool, true, ℕ, ◌+◌, ◌*◌, ◌^◌}
use mathlib.Core.List.{List, [], ◌∷◌, map, flat_map, foldl}
use Rattle.definitions.specs.Words.{rotr, from, pad}
use Rattle.definitions.specs.Family.{Family, BLAKE2b, BLAKE2s}
use Rattle.definitions.specs.Compress.{SIGMA, G, round, rounds_to, ones, F}
use Rattle.definitions.specs.Hash.{sequential, parameter_block, start, words, keyed, calls, compress, state_bytes, untruncated, hash, blake2}
use Rattle.definitions.specs.Tree.{share, leaf_data, parameters, leaf, parallel, BLAKE2bp}

-- bytes as they are printed, the first one first
abbrev pub printed : List ℕ → ℕ
printed = foldl (λ n x. n * 256 + x) 0

abbrev pub abc : List ℕ
abc = 0x61 ∷ 0x62 ∷ 0x63 ∷ []

-- the bytes of the state after one call of F on the block 0, 1, 2 and so on, from the state before the first block of an unkeyed hash:
-- the last block, at a count of two words
abbrev pub called : Family → Bool → ℕ → ℕ → List ℕ
called f node high low =
    state_bytes f (F f (start f (sequential (8 * f.ww) 0)) (words f 16 (from 0 f.bb)) (high * 2 ^ f.w + low) true node)

-- what is computed, and what others say
pub record Vector : Type 0 where
  pub computed : List ℕ
  pub published : ℕ

infix 60 ◌is◌
abbrev pub ◌is◌ : List ℕ → ℕ → Vector
d is n = record { computed = d; published = n }

-- the first two are RFC 7693's appendices A and B; crates/vectors has more
unfoldable pub vectors : List Vector
vectors =
    (blake2 BLAKE2b 64 [] abc is 0xba80a53f981c4d0d6a2797b69f12f6e94c212f14685ac4b74b12bb6fdbffa2d17d87c5392aab792dc252d5de4533cc9518d38aa8dbf1925ab92386edd4009923)
    ∷ (blake2 BLAKE2s 32 [] abc is 0x508c5e8c327c14e2e1a72ba34eeb452f37458b209ed63a294d999b4c86675982)
    ∷ (called BLAKE2b true 5 131 is 0xec42f92ffd7caf57d60a336a04ad97201d15866e84e9391ab3eeeb94c6f34ada280938a2d3233f950421e583c8f125fc762eaca663d392910344fc12d6f2baca)
    ∷ (BLAKE2bp 64 [] [] is 0xb5ef811a8038f70b628fa8b294daae7492b1ebe343a80eaabbf1f6ae664dd67b9d90b0120791eab81dc96985f28849f6a305186a85501b405114bfa678df9380)
    ∷ []

-- each is what others say it is
unfoldable pub results : List Vector → List ℕ
results t = map (λ v. printed v.computed) t

unfoldable pub published : List Vector → List ℕ
published t = map (λ v. v.published) t

pub agree : results vectors ≡ published vectors
unfolding results published vectors SIGMA G rotr round rounds_to ones F start words parameter_block pad keyed calls compress state_bytes untruncated hash flat_map share leaf_data parameters leaf parallel
agree = refl
