-- `compression::compress_block` meets its contract. Its pieces make F.
-- Assumes nothing.
use mathlib.Core.Path.{◌≡◌, ap, ◌∙◌}
use Prim.Native.Nat.{ℕ, ◌+◌, ◌*◌, ◌/◌, ◌%◌, ◌^◌, ◌<◌}
use native.Mathlib.Omega.{arith}
use Rattle.definitions.specs.Family.{BLAKE2b}
use Rattle.definitions.specs.Compress.{F, rounds_to}
use Rattle.definitions.specs.Hash.{words}
use Rattle.laws_words.specs.Halves.{initial}
use Rattle.laws_words.proofs.Compression.{F_is}
use Rattle.compression.proofs.compress_block.Goals as goal

-- a count by its two words
low_below : (t : ℕ) → t % 2 ^ 64 < 2 ^ 64
low_below t = omega arith

two_words : (t : ℕ) → t % 2 ^ 64 + t / 2 ^ 64 * 2 ^ 64 ≡ t
two_words t = omega arith

pub returns : goal.returns
returns c =
    let a = c.args in
    let m = words BLAKE2b 16 a.block.now in
    let first = c.start-v.ensures ∙ (λ i. initial BLAKE2b a.words (a.count % 2 ^ 64) (a.count / 2 ^ 64) (c.flag_word.ensures i) (c.flag_word-2.ensures i)) in
    let last = c.rounds.ensures ∙ (λ i. rounds_to BLAKE2b 12 (c.read_words-m.ensures i) c.start-v.result) in
    F_is BLAKE2b a.words m (a.count % 2 ^ 64) (a.count / 2 ^ 64) a.last_block a.last_node (low_below a.count) first last c.finish.ensures
    ∙ ap (λ (t : ℕ). F BLAKE2b a.words m t a.last_block a.last_node) (two_words a.count)
