-- The code's bounds and sizes, as a keeper's, and what a call tests of them.
-- Assumes nothing.
use Rattle.std.specs.Prelude.{Bool, ℕ, ◌+◌, ◌-◌, leb}
use mathlib.Core.List.{List, [], ◌∷◌}
use Rattle.refusals.specs.Numbers.{limit, total_over, bad_record}
use Rattle.refusals.specs.Tests.{Test, test}
use Rattle.members.specs.Keeper.{Keeper, total_of, key_row, range_of}
use Rattle.members.specs.Keeper as keeper
use Rattle.members.specs.declared.bounds.Bounds.{Bounds}
use Rattle.members.specs.declared.bounds.Sizes.{Sizes}

abbrev pub bounds_of : Bounds → keeper.Bounds
bounds_of z = record { most = z.most; room = z.room; unit = z.unit; key = z.key; limit = limit }

abbrev pub sizes_of : {S L : Type 0} → Keeper S L → S → Sizes
sizes_of k s = record { hash_length = k.hash_length s; buflen = (k.core s).buflen; count = (k.core s).count; is_keyed = k.keyed s }

module _ (z : Bounds) (s : Sizes) where
  abbrev pub in_bounds : Bool
  in_bounds = range_of (bounds_of z) s.hash_length s.buflen s.count s.is_keyed

  abbrev pub total_in : ℕ
  total_in = total_of (bounds_of z) s.count s.buflen

  abbrev pub message_bytes : ℕ
  message_bytes = total_in - key_row (bounds_of z) s.is_keyed

  abbrev pub range_tests : List Test
  range_tests = test in_bounds bad_record ∷ []

  abbrev pub room_tests : ℕ → List Test
  room_tests n = test in_bounds bad_record ∷ test (leb (total_in + n) limit) total_over ∷ []
