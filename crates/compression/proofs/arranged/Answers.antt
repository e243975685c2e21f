-- `compression::arranged` meets its contract: the call at each index gave the word that the row names there.
-- Assumes nothing.
use borrow.Author.Rules.{rules}
use Rattle.definitions.specs.Words.{◌!◌}
use Rattle.laws_words.specs.Halves.{ordered}
use Rattle.laws_words.proofs.FromFn.{made}
use Rattle.compression.proofs.arranged.Goals as goal

pub returns : goal.returns
unfolding ordered
returns c = made _ (λ i. c.args.m.now ! (c.args.row ! i)) _ (λ i y q k. search rules) _ 16 c.from_fn.ensures.items
