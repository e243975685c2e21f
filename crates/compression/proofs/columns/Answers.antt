-- `compression::columns` meets its contract. Four calls of the mixing function make the columns.
-- Assumes nothing.
use mathlib.Core.Path.{◌≡◌}
use lib.ListN.{length}
use Rattle.definitions.specs.Family.{BLAKE2b}
use Rattle.laws_words.proofs.Compression.{columns_is}
use borrow.Author.Rules.{rules}
use Rattle.compression.proofs.columns.Goals as goal
use Rattle.compression.proofs.columns.Goals.{Start}

long : (c : Start) → length c.args.v ≡ 16
long c = search rules

pub returns : goal.returns
returns c =
    columns_is BLAKE2b c.args.x c.args.v (long (goal.at.returns c).Start) c.g.ensures c.g-2.ensures c.g-3.ensures c.g-4.ensures
