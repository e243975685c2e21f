-- `blake2bp::params::Params::front` meets its contract.
-- Assumes nothing.
use mathlib.Core.Path.{◌≡◌, sym, ap, ◌∙◌}
use mathlib.Core.List.{List}
use Prim.Native.Nat.{ℕ}
use native.Mathlib.Omega.{arith}
use lib.ListN.{length}
use Rattle.definitions.specs.Words.{pad}
use Rattle.laws_states.specs.Leaves.{row_of}
use Rattle.laws_words.proofs.Stores.{pad_none}
use Rattle.blake2bp_leaves.specs.Sizes.{degree}
use Rattle.blake2bp.specs.Sizes.{keybytes, roombytes}
use Rattle.blake2bp.proofs.Fresh.{front_plain, front_keyed}
use borrow.Author.Rules.{rules}
use Rattle.blake2bp.proofs.params.Params.front.Goals as goal
use Rattle.blake2bp.proofs.params.Params.front.Goals.{Start}

whole : (c : Start) → length c.args.self.key ≡ keybytes
whole c = search rules

pub returns-then-self-eq0 : goal.returns-then-self-eq0
returns-then-self-eq0 c =
    let none = front_plain c.args.self (whole (goal.at.returns-then-self-eq0 c).Start) c.requires (omega arith) in
    c.zeroed.ensures ∙ sym (pad_none roombytes) ∙ ap (pad roombytes) (sym none)

pub returns : goal.returns
returns c =
    let some = front_keyed c.args.self (whole (goal.at.returns c).Start) c.requires (omega arith) in
    c.key_row.ensures ∙ ap (λ (b : List ℕ). pad roombytes (row_of degree b)) c.padded.ensures ∙ ap (pad roombytes) (sym some)
