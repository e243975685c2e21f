-- `blake2bp_leaves::starts::node_words` meets its contract.
-- Assumes nothing.
use mathlib.Core.Path.{◌∙◌}
use Rattle.blake2bp_leaves.proofs.Turns.{zeros_are_none}
use Rattle.blake2bp_leaves.proofs.starts.node_words.Goals as goal

pub returns : goal.returns
returns c =
    let a = c.args in
    c.words.ensures ∙ zeros_are_none a.hash_length a.key_length a.offset a.depth
