-- `blake2bp_leaves::starts::leaf_words` meets its contract.
-- Assumes nothing.
use mathlib.Core.Path.{refl, ◌∙◌}
use Rattle.std.proofs.Common.{rules}
use Rattle.laws_states.specs.Leaves.{leaf_starts}
use Rattle.blake2bp_leaves.proofs.Calls.{made_by}
use Rattle.blake2bp_leaves.proofs.Turns.{leaf_start}
use Rattle.blake2bp_leaves.proofs.starts.leaf_words.Goals as goal

pub returns : goal.returns
unfolding leaf_starts
returns c =
    let a = c.args in
    made_by (λ i. leaf_start a.hash_length a.key_length i) (λ i y q w. search rules) c.from_fn.ensures.items ∙ refl
