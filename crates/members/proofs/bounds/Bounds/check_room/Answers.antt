-- `members::bounds::Bounds::check_room` meets its contract.
-- Assumes nothing.
use mathlib.Core.Path.{refl}
use Prim.Native.Nat.{◌+◌}
use native.Mathlib.Omega.{arith}
use Rattle.std.proofs.lemmas.Bool.{lt-leb}
use Rattle.refusals.specs.Numbers.{limit}
use Rattle.refusals.proofs.Picks.{holds, fails}
use Rattle.members.specs.Sizes.{total_in}
use Rattle.members.proofs.Ranges.{kept_in}
use Rattle.members.proofs.bounds.Bounds.check_room.Goals as goal

pub returns-then-more-left : goal.returns-then-more-left
unfolding limit
returns-then-more-left c =
    let ok = c.in_ok-left.ensures in
    holds _ _ _ ok.0 (fails _ _ _ (lt-leb (total_in c.args.self c.args.sizes + c.args.more) limit (omega (arith, ok.1, c.if-more-left.true))) refl)

pub returns : goal.returns
unfolding limit
returns c =
    let ok = c.in_ok-left.ensures in
    let k = kept_in c.args.self c.args.sizes ok.0 in
    (ok.0, omega (arith, k.within, ok.1, c.if-more-left.false))
