-- `bank::bank::Bank::update_many` meets its contract.
-- Assumes nothing.
use Rattle.std.proofs.Common.{rules, ap, ◌∙◌, length-set, ◌≡◌}
use Rattle.std.specs.Prelude.{Ok}
use Rattle.std.proofs.lemmas.Result.{err_from_is_err_and}
use Rattle.bank.specs.Slots.{batch_answer}
use Rattle.bank.proofs.Batches.{batch_bad, batch_too_long, batch_starts, batch_slot_number, batch_stops, batch_goes_on, batch_ends}
use Rattle.bank.proofs.Results.{is_refused, is_accepted}
use Rattle.bank.proofs.bank.Bank.update_many.Goals as goal

pub returns-then-not-in_range : goal.returns-then-not-in_range
returns-then-not-in_range c = batch_bad _ _ _ _ c.if-not-in_range.ensures

pub returns-then-used-gt-MOST_RECORDS : goal.returns-then-used-gt-MOST_RECORDS
returns-then-used-gt-MOST_RECORDS c = batch_too_long _ _ _ _ c.if-not-in_range.ensures c.if-used-gt-MOST_RECORDS.true

pub loop-index-init : goal.loop-index-init
loop-index-init c = record {
  sized = search rules;
  left = batch_starts _ _ _ _ c.if-not-in_range.ensures c.if-used-gt-MOST_RECORDS.false;
}

pub returns-then-piece-ge-SLOTS : goal.returns-then-piece-ge-SLOTS
returns-then-piece-ge-SLOTS c = batch_slot_number _ _ _ _ _ _ c.loop-index-test.true c.if-piece-ge-SLOTS.true ∙ c.loop-index.invariant.left

pub returns-in_err-next : goal.returns-in_err-next
returns-in_err-next c =
    let i = c.loop-index.index-counter in
    let met = is_refused c.feed.result c.in_err-next.ensures.cases (λ x p. cc) in
    let same : c.in_err-next.field-0.0 ≡ record { refusal = met.0; index = i } = search (rules, met.2) in
    let exit = err_from_is_err_and c.from_residual.result c.from_residual.ensures.1 in
    rw (exit.1, exit.2, same)
    (batch_stops _ _ _ i _ _ c.loop-index-test.true c.if-piece-ge-SLOTS.false _ (search rules) met.0 (rw met.1 at c.feed.ensures) ∙ c.loop-index.invariant.left)

pub loop-index-preserved : goal.loop-index-preserved
loop-index-preserved c =
    let i = c.loop-index in
    let met = is_accepted c.feed.result c.in_ok-next.ensures.cases (λ d q. q) in
    let same : c.feed.result ≡ Ok c.in_ok-next.next = cc (met.1, met.2) in
    let fed = rw same at c.feed.ensures in
    let on = batch_goes_on c.args.self i.slots _ i.index-counter c.args.data.now _ c.loop-index-test.true c.if-piece-ge-SLOTS.false _ (search rules) c.in_ok-next.next fed in
    record { sized = simp length-set i.invariant.sized; left = ap batch_answer on ∙ i.invariant.left }

pub returns : goal.returns
returns c = batch_ends _ _ _ _ _ c.loop-index-test.false ∙ c.loop-index.invariant.left
