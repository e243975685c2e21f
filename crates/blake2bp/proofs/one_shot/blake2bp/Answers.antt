-- `blake2bp::one_shot::blake2bp` meets its contract.
-- Assumes nothing.
use mathlib.Core.Path.{◌≡◌, refl, sym, ap, ◌∙◌}
use Prim.Native.Nat.{◌≤◌}
use lib.ListN.{length}
use Rattle.std.specs.Prelude.{Ok}
use Rattle.refusals.specs.Answers.{value_in}
use Rattle.refusals.specs.Numbers.{limit}
use Rattle.hash.specs.Answers.{zero_hash}
use Rattle.hash.specs.Hash.{hash_of}
use Rattle.hash.proofs.Unique.{hash_settled}
use Rattle.blake2bp.specs.Params.{defaults}
use Rattle.blake2bp.specs.State.{digest, hashed}
use Rattle.blake2bp.specs.declared.params.Params.{Params}
use Rattle.blake2bp.proofs.OneShot.{hashed_defaults}
use borrow.Author.Rules.{rules}
use Rattle.blake2bp.proofs.one_shot.blake2bp.Goals as goal
use Rattle.blake2bp.proofs.one_shot.blake2bp.Goals.{Start, After-hash}

few : (c : Start) → length c.args.input.now ≤ limit
unfolding limit
few c = search rules

-- the default parameters are never refused
made : (c : After-hash) → c.hash.result ≡ Ok (hash_of (digest defaults c.args.input.now))
made c =
    let m = c.args.input.now in
    hash_settled (c.hash.ensures ∙ ap (λ (p : Params). hashed p m) c.new.ensures ∙ hashed_defaults m (few (goal.at.After-hash c).Start))

pub unwrap-requires : goal.unwrap-requires
unwrap-requires c = rw (made c) refl

pub returns : goal.returns
returns c = ap (value_in zero_hash) (sym c.unwrap.ensures ∙ made (goal.at.returns c).After-hash)
