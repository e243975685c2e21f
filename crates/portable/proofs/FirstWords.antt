-- The first four words of the parameter block, as code makes them from its numbers.
-- Assumes nothing.
use mathlib.Core.Path.{◌≡◌, sym}
use mathlib.Core.List.{[], ◌∷◌}
use Prim.Native.Nat.{◌+◌, ◌*◌, ◌^◌, ◌<◌}
use native.Mathlib.Omega.{arith}
use Rattle.definitions.specs.Words.{word, bytes}
use Rattle.definitions.specs.Family.{BLAKE2b}
use Rattle.definitions.specs.Hash.{Parameters, words}
use Rattle.laws_words.proofs.Bytes.{word_bytes}
use Rattle.laws_words.proofs.Parameters.{numbers}

-- the lengths, fanout, depth and leaf length; the node offset; the node depth and the inner length; nothing
pub numbers_are : (p : Parameters) → p.leaf_length < 256 ^ 4 → p.node_offset < 256 ^ 8
    → (p.digest_length + p.key_length * 0x100 + p.fanout * 0x1_0000 + p.depth * 0x100_0000 + p.leaf_length * 0x1_0000_0000)
    ∷ p.node_offset ∷ (p.node_depth + p.inner_length * 0x100) ∷ 0 ∷ [] ≡ words BLAKE2b 4 (numbers BLAKE2b p)
unfolding words numbers
numbers_are p hl ho =
    let leaf = word_bytes 4 p.leaf_length hl in
    let w0 : p.digest_length + p.key_length * 0x100 + p.fanout * 0x1_0000 + p.depth * 0x100_0000 + p.leaf_length * 0x1_0000_0000
    ≡ word (p.digest_length ∷ p.key_length ∷ p.fanout ∷ p.depth ∷ bytes 4 p.leaf_length) = omega arith in
    let w1 = sym (word_bytes 8 p.node_offset ho) in
    let w2 : p.node_depth + p.inner_length * 0x100 ≡ word (p.node_depth ∷ p.inner_length ∷ []) = omega arith in
    λ i. w0 i ∷ w1 i ∷ w2 i ∷ 0 ∷ []
