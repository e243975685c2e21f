-- `split_once` answers what is behind the mark.
-- Assumes nothing.
use Rattle.std.proofs.Common.{rules, arith}
use Rattle.std.proofs.lemmas.Bool.Decides.{nat_tests}
use Rattle.std.proofs.lemmas.Grind.{common_steps}
use Rattle.replay_text.proofs.Marks.{first_mark}
use Rattle.replay_text.proofs.text.split_once.Goals as goal

pub returns-clause-rest : goal.returns-clause-rest
returns-clause-rest c =
    let found = c.find-at.ensures in
    let at = first_mark c.args.mark c.args.text.now c.find-at.result found.within found.before found.found in
    first_of (search (rules, at), grind (arith, nat_tests, common_steps, at))
