-- `exports_blake2bp::sumpillow_blake2bp` meets its contract.
-- Assumes nothing.
use mathlib.Core.Path.{ap, ◌∙◌}
use mathlib.Core.List.{[]}
use native.Mathlib.Omega.{arith}
use Rattle.definitions.specs.Tree.{BLAKE2bp}
use Rattle.hash.specs.Hash.{hash_of}
use Rattle.hash.proofs.Outputs.{written_output}
use Rattle.blake2bp_leaves.specs.Sizes.{outbytes}
use Rattle.blake2bp.proofs.Plain.{digest_plain, length_of_digest}
use Rattle.exports_blake2bp.proofs.sumpillow_blake2bp.Goals as goal

pub returns : goal.returns
returns c =
    let m = c.args.input.now in
    let w = written_output (BLAKE2bp outbytes [] m) c.args.out.now outbytes (omega arith) (omega arith) (length_of_digest m)
    (c.blake2bp.ensures ∙ ap hash_of (digest_plain m)) c.write_bytes.ensures in
    (c.number_in.ensures ∙ w.0, w.1)
