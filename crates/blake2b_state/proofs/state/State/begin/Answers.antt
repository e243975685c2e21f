-- `blake2b_state::state::State::begin` meets its contract.
-- Assumes nothing.
use mathlib.Core.Path.{◌≡◌}
use borrow.Author.Rules.{rules}
use lib.ListN.{length}
use Rattle.laws_words.specs.Bytes.{zeros}
use Rattle.laws_words.proofs.Bytes.{pad_whole}
use Rattle.definitions.specs.Words.{pad}
use Rattle.blake2b_state.specs.Sizes.{blockbytes}
use Rattle.blake2b_state.specs.State.{key_front, beginning}
use Rattle.blake2b_state.proofs.state.State.begin.Goals as goal
use Rattle.blake2b_state.proofs.state.State.begin.Goals.{In-Some}

whole : (c : In-Some) → length c.in-Some.block ≡ blockbytes
whole c = search rules

pub returns-then-not-is_digest_length : goal.returns-then-not-is_digest_length
unfolding beginning
returns-then-not-is_digest_length c = rw (← c.is_digest_length.ensures, c.if-not-is_digest_length.true)

pub returns-in-Some : goal.returns-in-Some
unfolding beginning key_front
returns-in-Some c =
    let l = whole (goal.at.returns-in-Some c).In-Some in
    rw (c.in-Some.is, c.zero.ensures, ← c.is_digest_length.ensures, c.if-not-is_digest_length.false, pad_whole blockbytes c.in-Some.block l, l)

pub returns-in-None : goal.returns-in-None
unfolding beginning key_front pad zeros
returns-in-None c = rw (c.in-None.is, c.zero.ensures, ← c.is_digest_length.ensures, c.if-not-is_digest_length.false)
