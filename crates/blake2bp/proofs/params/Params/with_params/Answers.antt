-- `blake2bp::params::Params::with_params` meets its contract.
-- Assumes nothing.
use mathlib.Core.Path.{◌≡◌, refl, sym, ap}
use lib.ListN.{length}
use borrow.Author.Tests.{lt-ltb, le-ltb}
use Rattle.members.specs.Keeper.{key_row}
use Rattle.blake2bp.specs.Sizes.{keybytes}
use Rattle.blake2bp.specs.State.{bounds}
use Rattle.blake2bp.proofs.Fresh.{begins}
use borrow.Author.Rules.{rules}
use Rattle.blake2bp.proofs.params.Params.with_params.Goals as goal
use Rattle.blake2bp.proofs.params.Params.with_params.Goals.{Start}

whole : (c : Start) → length c.args.self.key ≡ keybytes
whole c = search rules

pub returns-then-is_keyed : goal.returns-then-is_keyed
returns-then-is_keyed c =
    let p = c.args.self in
    begins p (whole (goal.at.returns-then-is_keyed c).Start) c.requires c.leaf_words.ensures c.root_words.ensures c.front.ensures refl
    (sym (ap (key_row bounds) (lt-ltb 0 p.key_length c.if-is_keyed.true)))

pub returns-else-is_keyed : goal.returns-else-is_keyed
returns-else-is_keyed c =
    let p = c.args.self in
    begins p (whole (goal.at.returns-else-is_keyed c).Start) c.requires c.leaf_words.ensures c.root_words.ensures c.front.ensures refl
    (sym (ap (key_row bounds) (le-ltb 0 p.key_length c.if-is_keyed.false)))
