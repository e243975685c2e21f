-- `digits` answers the digits of each byte.
-- Assumes nothing.
use Rattle.std.proofs.Common.{arith}
use Rattle.std.proofs.lemmas.Grind.{common_steps}
use Rattle.replay_text.proofs.Digits.{two_digits_more, hex_is_text}
use Rattle.replay_text.proofs.answer.digits.Goals as goal

pub loop-i-preserved : goal.loop-i-preserved
loop-i-preserved c =
    let more = two_digits_more c.args.part.now c.loop-i.i 0 c.loop-i-test.true in
    grind (arith, common_steps, more)

pub unwrap-requires : goal.unwrap-requires
unwrap-requires c =
    let text = hex_is_text c.args.part.now (λ i. (c.type_inv.part i).fits) in
    grind (arith, common_steps, text)
