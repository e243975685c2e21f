-- What is known of the limit of a total: it is the greatest number of a word, and no key comes near it.
-- Assumes nothing.
use mathlib.Core.Path.{◌≡◌, refl}
use Prim.Native.Nat.{◌-◌, ◌^◌, ◌≤◌}
use native.Mathlib.Omega.{arith}
use Rattle.refusals.specs.Numbers.{limit}

pub limit_is : limit ≡ 2 ^ 64 - 1
unfolding limit
limit_is = refl

-- two rows of BLAKE2bp's blocks
pub wide : 1024 ≤ limit
wide = let e = limit_is in omega arith
