-- `many_work::work::Work::to_hash` meets its contract.
-- Assumes nothing.
use Rattle.std.proofs.Common.{rules}
use Rattle.many_work.proofs.Works.{hash_finished}
use Rattle.many_work.proofs.work.Work.to_hash.Goals as goal

pub returns : goal.returns
returns c = hash_finished c.args.self c.args.length (search rules) (search rules) (search rules) c.write_words-bytes.ensures c.from_state.ensures
