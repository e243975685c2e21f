-- `report_text::report::Report::lines` meets its contract.
-- Assumes nothing.
use mathlib.Core.Path.{refl, ◌∙◌}
use borrow.Author.Tests.{not-true, not-false}
use Rattle.blake2b_state.proofs.Exits.{handed_on}
use Rattle.report_text.proofs.Reports.{finalize_told, finalize_refused, count_told, count_refused, lines_readable, lines_unreadable}
use Rattle.report_text.proofs.report.Report.lines.Goals as goal

pub returns-in_err-count : goal.returns-in_err-count
returns-in_err-count c =
    let bad = count_refused c.args.self.state _ c.in_err-count.ensures in
    rw (handed_on {r = c.from_residual.result} c.from_residual.ensures.1 bad.1) (bad.0, refl)

pub returns-then-not-self : goal.returns-then-not-self
returns-then-not-self c = (
  count_told c.args.self.state c.in_ok-count.ensures,
  rw (c.line.ensures.text, c.new.ensures) (lines_unreadable c.args.self (not-true _ c.if-not-self.true)),
)

pub returns-in_err-hash : goal.returns-in_err-hash
returns-in_err-hash c =
    let bad = finalize_refused c.args.self.state _ c.in_err-hash.ensures in
    rw (handed_on {r = c.from_residual-in_err-hash.result} c.from_residual-in_err-hash.ensures.1 bad.1) (bad.0, refl)

pub five_lines-requires : goal.five_lines-requires
five_lines-requires c = (finalize_told c.args.self.state c.in_ok-hash.ensures).1

pub returns : goal.returns
returns c = (
  (finalize_told c.args.self.state c.in_ok-hash.ensures).0,
  c.five_lines.ensures ∙ lines_readable c.args.self _ _ (not-false _ c.if-not-self.false) c.in_ok-hash.ensures c.in_ok-count.ensures,
)
