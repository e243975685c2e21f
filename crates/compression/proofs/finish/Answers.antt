-- `compression::finish` meets its contract: the call at each index folded the words there.
-- Assumes nothing.
use Prim.Native.Nat.{◌+◌}
use borrow.Author.Rules.{rules}
use Rattle.definitions.specs.Words.{◌!◌, ◌⊕◌}
use Rattle.laws_words.specs.Halves.{fold_halves}
use Rattle.laws_words.proofs.FromFn.{made}
use Rattle.compression.proofs.finish.Goals as goal

pub returns : goal.returns
unfolding fold_halves
returns c =
    let h = c.args.h in
    let v = c.args.v in
    made _ (λ i. h ! i ⊕ v ! i ⊕ v ! (i + 8)) _ (λ i y q k. search rules) _ 8 c.from_fn.ensures.items
