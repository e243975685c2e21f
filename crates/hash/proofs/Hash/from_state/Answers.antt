-- `hash::Hash::from_state` meets its contract.
-- Assumes nothing.
use mathlib.Core.Path.{refl, sym, ◌∙◌}
use lib.ListN.{take}
use Rattle.laws_words.proofs.Stores.{stored_padded}
use Rattle.laws_words.specs.Bytes.{zeros}
use Rattle.hash.specs.Sizes.{longest}
use Rattle.hash.proofs.Digests.{made}
use Rattle.hash.proofs.Hash.from_state.Goals as goal

pub returns : goal.returns
unfolding zeros
returns c =
    let a = c.args in
    rw (stored_padded longest (take a.length a.state.now) refl c.store.ensures)
    (made a.state.now a.length (sym c.is_digest_length.ensures ∙ c.if-not-is_digest_length.false) c.if-state-length.false)
