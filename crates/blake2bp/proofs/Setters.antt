-- What parameters in range keep.
-- Assumes nothing.
use mathlib.Core.Path.{◌≡◌}
use mathlib.Core.Bool.{true, and-eq-true_iff}
use Prim.Native.Nat.{◌≤◌}
use borrow.Author.Tests.{leb-true}
use lib.Dec.{leb}
use Rattle.hash.specs.Hash.{is_digest_length}
use Rattle.blake2bp.specs.Sizes.{keybytes}
use Rattle.blake2bp.specs.Params.{in_range}
use Rattle.blake2bp.specs.declared.params.Params.{Params}

module _ (p : Params) (good : in_range p ≡ true) where
  pub digest_asked : is_digest_length p.hash_length ≡ true
  unfolding in_range
  digest_asked = ((and-eq-true_iff (is_digest_length p.hash_length) (leb p.key_length keybytes)).0 good).0

  pub key_short : p.key_length ≤ keybytes
  unfolding in_range
  key_short = leb-true p.key_length keybytes ((and-eq-true_iff (is_digest_length p.hash_length) (leb p.key_length keybytes)).0 good).1
