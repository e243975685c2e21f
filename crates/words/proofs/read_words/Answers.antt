-- `words::read_words` meets its contract: the call at each index gave the word there.
-- Assumes nothing.
use borrow.Author.Rules.{rules}
use Rattle.definitions.specs.Words.{word, part}
use Rattle.definitions.specs.Hash.{words}
use Rattle.laws_words.proofs.FromFn.{made}
use Rattle.words.proofs.read_words.Goals as goal

pub returns : goal.returns
unfolding words
returns c = made _ (λ i. word (part 8 c.args.block.now i)) _ (λ i y q k. search rules) _ 16 c.from_fn.ensures.items
