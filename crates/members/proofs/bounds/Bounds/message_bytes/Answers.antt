-- `members::bounds::Bounds::message_bytes` meets its contract.
-- Assumes nothing.
use native.Mathlib.Omega.{arith}
use Rattle.members.proofs.Ranges.{kept_in}
use Rattle.members.proofs.bounds.Bounds.message_bytes.Goals as goal

pub overflow_sub-result : goal.overflow_sub-result
overflow_sub-result c =
    let ok = c.in_ok-check.ensures in
    let k = kept_in c.args.self c.args.sizes ok.0 in
    omega (arith, k.front, ok.1, c.ahead.ensures)
