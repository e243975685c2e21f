-- `exports::sumpillow_blake2b` meets its contract.
-- Assumes nothing.
use mathlib.Core.Path.{ap, ◌∙◌}
use mathlib.Core.List.{[]}
use native.Mathlib.Omega.{arith}
use Rattle.definitions.specs.Family.{BLAKE2b}
use Rattle.definitions.specs.Hash.{blake2}
use Rattle.hash.specs.Hash.{hash_of}
use Rattle.hash.proofs.Outputs.{written_output}
use Rattle.blake2b_state.specs.Sizes.{outbytes}
use Rattle.blake2b.proofs.Plain.{digest_plain, length_of_digest}
use Rattle.exports.proofs.sumpillow_blake2b.Goals as goal

pub returns : goal.returns
returns c =
    let m = c.args.input.now in
    let w = written_output (blake2 BLAKE2b outbytes [] m) c.args.out.now outbytes (omega arith) (omega arith) (length_of_digest m)
    (c.blake2b.ensures ∙ ap hash_of (digest_plain m)) c.write_bytes.ensures in
    (c.number_in.ensures ∙ w.0, w.1)
