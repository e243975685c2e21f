-- `portable::parameters::ParameterBlock::words` meets its contract.
-- Assumes nothing.
use mathlib.Core.Path.{◌≡◌, refl, ◌∙◌}
use mathlib.Core.List.{[], ◌∷◌}
use Prim.Native.Nat.{◌+◌, ◌*◌}
use native.Mathlib.Omega.{arith}
use borrow.Author.Rules.{rules}
use lib.ListN.{length}
use Rattle.definitions.specs.Family.{BLAKE2b}
use Rattle.laws_words.proofs.Parameters.{start_by_field}
use Rattle.portable.specs.Nodes.{parameters_of}
use Rattle.portable.proofs.FirstWords.{numbers_are}
use Rattle.portable.proofs.parameters.ParameterBlock.words.Goals as goal
use Rattle.portable.proofs.parameters.ParameterBlock.words.Goals.{Start}

salt_long : (c : Start) → length c.args.self.salt ≡ BLAKE2b.salt_bytes
salt_long c = search rules

personal_long : (c : Start) → length c.args.self.personal ≡ BLAKE2b.salt_bytes
personal_long c = search rules

pub returns : goal.returns
returns c =
    let s = c.args.self in
    let p = parameters_of s in
    let lengths : c.from.result + c.from-2.result * 0x100 + c.from-3.result * 0x1_0000 + c.from-4.result * 0x100_0000 + c.from-5.result * 0x1_0000_0000
    ≡ p.digest_length + p.key_length * 0x100 + p.fanout * 0x1_0000 + p.depth * 0x100_0000 + p.leaf_length * 0x1_0000_0000 = cc in
    let node : c.from-6.result + c.from-7.result * 0x100 ≡ p.node_depth + p.inner_length * 0x100 = cc in
    start_by_field BLAKE2b refl refl p (salt_long (goal.at.returns c).Start) (personal_long (goal.at.returns c).Start)
    ((λ i. lengths i ∷ p.node_offset ∷ node i ∷ 0 ∷ []) ∙ numbers_are p (omega arith) (omega arith))
    c.read_word.ensures c.read_word-2.ensures c.read_word-3.ensures c.read_word-4.ensures
