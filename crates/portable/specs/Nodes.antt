-- The parameter block of a node, as the definitions have it.
-- Assumes nothing.
use Rattle.definitions.specs.Hash.{Parameters}
use Rattle.portable.specs.declared.parameters.ParameterBlock.{ParameterBlock}

abbrev pub parameters_of : ParameterBlock → Parameters
parameters_of p = record {
  digest_length = p.digest_length;
  key_length = p.key_length;
  fanout = p.fanout;
  depth = p.depth;
  leaf_length = p.leaf_length;
  node_offset = p.node_offset;
  node_depth = p.node_depth;
  inner_length = p.inner_length;
  salt = p.salt;
  personal = p.personal;
}
