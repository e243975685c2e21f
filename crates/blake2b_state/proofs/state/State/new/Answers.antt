-- `blake2b_state::state::State::new` meets its contract.
-- Assumes nothing.
use Rattle.laws_words.specs.Bytes.{zeros}
use Rattle.definitions.specs.Words.{pad}
use Rattle.definitions.specs.Hash.{parameter_block, start}
use Rattle.blake2b_state.specs.Sizes.{outbytes}
use Rattle.blake2b_state.specs.State.{key_front}
use Rattle.blake2b_state.proofs.state.State.new.Goals as goal

pub returns : goal.returns
unfolding start parameter_block key_front pad zeros
returns c = λ j. let z = c.zero.ensures j in record {
  words = c.words.ensures j;
  count = z.count;
  buf = z.buf;
  buflen = z.buflen;
  last_node = z.last_node;
  hash_length = outbytes;
  is_keyed = z.is_keyed;
}
