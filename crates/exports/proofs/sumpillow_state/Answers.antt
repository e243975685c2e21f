-- `exports::sumpillow_state` meets its contract.
-- Assumes nothing.
use mathlib.Core.Path.{◌≡◌, sym, ap, ◌∙◌}
use mathlib.Core.List.{[]}
use Prim.Native.Nat.{◌≤◌}
use native.Mathlib.Omega.{arith}
use borrow.Author.Rules.{rules}
use lib.ListN.{length}
use Rattle.std.specs.Prelude.{Ok}
use Rattle.std.specs.Result.{is_ok}
use Rattle.definitions.specs.Family.{BLAKE2b}
use Rattle.definitions.specs.Hash.{blake2}
use Rattle.refusals.specs.Answers.{value_in}
use Rattle.refusals.specs.Numbers.{limit}
use Rattle.hash.specs.Answers.{zero_hash}
use Rattle.hash.specs.Hash.{hash_of}
use Rattle.hash.proofs.Outputs.{written_output}
use Rattle.members.specs.Row.{row}
use Rattle.blake2b_state.specs.Sizes.{outbytes}
use Rattle.blake2b_state.specs.State.{zero_state, finalized}
use Rattle.blake2b.specs.Params.{defaults}
use Rattle.blake2b.proofs.Plain.{length_of_digest}
use Rattle.blake2b.proofs.Rows.{state_of}
use Rattle.exports.proofs.Through.{update_known, finalize_known}
use Rattle.exports.proofs.sumpillow_state.Goals as goal
use Rattle.exports.proofs.sumpillow_state.Goals.{After-update, After-finalize, Start}

few : (c : Start) → length c.args.input.now ≤ limit
unfolding limit
few c = search rules

took : (c : After-update) → c.update.result ≡ Ok (state_of (row defaults c.args.input.now))
took c = update_known c.args.input.now (few (goal.at.After-update c).Start) c.new-fresh.ensures c.update.ensures

pub unwrap-taken-requires : goal.unwrap-taken-requires
unwrap-taken-requires c = ap is_ok (took (goal.at.unwrap-taken-requires c).After-update)

made : (c : After-finalize) → c.finalize.result ≡ Ok (hash_of (blake2 BLAKE2b outbytes [] c.args.input.now))
made c =
    let here = goal.at.After-finalize c in
    finalize_known c.args.input.now (few here.Start)
    (c.finalize.ensures ∙ ap finalized (ap (value_in zero_state) (sym c.unwrap-taken.ensures ∙ took here.After-update)))

pub unwrap-hash-requires : goal.unwrap-hash-requires
unwrap-hash-requires c = ap is_ok (made (goal.at.unwrap-hash-requires c).After-finalize)

pub returns : goal.returns
returns c =
    let m = c.args.input.now in
    let w = written_output (blake2 BLAKE2b outbytes [] m) c.args.out.now outbytes (omega arith) (omega arith) (length_of_digest m)
    (ap (value_in zero_hash) (sym c.unwrap-hash.ensures ∙ made (goal.at.returns c).After-finalize)) c.write_bytes.ensures in
    (c.number_in.ensures ∙ w.0, w.1)
