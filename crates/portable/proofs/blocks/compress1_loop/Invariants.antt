-- `portable::blocks::compress1_loop` meets its contract. The loop's invariant: k blocks have gone, and block k is there.
-- Assumes nothing.
use Prim.Native.Nat.{◌<◌}
use Rattle.definitions.specs.Family.{BLAKE2b}
use Rattle.laws_blocks.proofs.Turns.{Reached}
use Rattle.portable.proofs.blocks.compress1_loop.Given as goal

abbrev pub invariant-loop-offset : goal.invariant-loop-offset
invariant-loop-offset l = record {
  within : l.offset < l.end;
  reached : Reached BLAKE2b l.input l.row l.padded l.count l.initial.local_words l.local_words l.local_count l.offset;
}
