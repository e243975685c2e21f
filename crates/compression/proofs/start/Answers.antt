-- `compression::start` meets its contract.
-- Assumes nothing.
use mathlib.Core.Path.{◌≡◌, refl}
use Prim.Native.Nat.{◌/◌, ◌%◌, ◌^◌}
use lib.ListN.{length}
use Rattle.definitions.specs.Family.{BLAKE2b}
use Rattle.laws_words.specs.Halves.{initial}
use Rattle.laws_words.proofs.Lists.{by_front}
use borrow.Author.Rules.{rules}
use Rattle.compression.proofs.start.Goals as goal
use Rattle.compression.proofs.start.Goals.{Start}

long : (c : Start) → length c.args.h ≡ 8
long c = search rules

pub returns : goal.returns
unfolding initial
returns c =
    let a = c.args in
    by_front 8 (λ h. initial BLAKE2b h (a.count % 2 ^ 64) (a.count / 2 ^ 64) a.last a.node) a.h (long (goal.at.returns c).Start) refl
