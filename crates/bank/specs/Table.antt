-- The table: per open slot a row, its parameters and every byte accepted since it was opened. A digest is RFC 7693's of these bytes, a count
-- their number. Assumes nothing.
use Rattle.std.specs.Prelude.{Bool, true, false, []}
use Rattle.std.proofs.Math.Option.{Option, none, some}
use Rattle.members.specs.Row.{Row, row, numbered}
use Rattle.refusals.specs.Numbers.{slot_closed}
use Rattle.blake2b.specs.Row.{row_taker}
use Rattle.blake2b.specs.declared.params.Params.{Params}
use Rattle.bank.specs.Rules.{Kind}

abbrev pub Entry : Type 0
Entry = Option (Row Params)

abbrev pub is_row : Entry → Bool
is_row none = false
is_row (some r) = true

-- what an open slot's row answers; a closed one has none, and refuses
abbrev pub rowed : {A : Type 0} → A → (Row Params → A) → Entry → A
rowed refused ask none = refused
rowed refused ask (some r) = ask r

abbrev pub table : Kind Entry
table = record {
  closed = none;
  opened = λ p. some (row p []);
  is_open = is_row;
  good = λ x. true;
  taker = record {
    number = λ x d. rowed slot_closed (λ r. row_taker.number r d) x;
    next = λ x d. rowed none (λ r. some (row_taker.next r d)) x;
    digested = λ x. rowed (numbered slot_closed) row_taker.digested x;
    counted = λ x. rowed (numbered slot_closed) row_taker.counted x;
  };
}
