-- The digits that `digits` has written in front of each byte.
-- Assumes nothing.
use Rattle.std.proofs.Common.{◌≡◌, ◌*◌, take}
use Rattle.replay_text.specs.Texts.{hex_text}
use Rattle.replay_text.proofs.answer.digits.Given as goal

abbrev pub invariant-loop-i : goal.invariant-loop-i
invariant-loop-i l = take (2 * l.i) l.room ≡ hex_text (take l.i l.part)
