-- `report_text::report::five_lines` meets its contract.
-- Assumes nothing.
use mathlib.Core.Path.{◌≡◌, sym, ap, ◌∙◌}
use mathlib.Core.Bool.{true}
use native.Mathlib.Omega.{arith}
use borrow.Author.Rules.{rules}
use lib.ListN.{length, take, length-take}
use Rattle.std.specs.Prelude.{Ok}
use Rattle.std.specs.Result.{is_ok}
use Rattle.refusals.specs.Answers.{value_in}
use Rattle.hash.specs.Sizes.{longest}
use Rattle.hash.specs.Hash.{hash_in_range, digest_of, hex_of}
use Rattle.report_text.proofs.Reports.{len_known, hex_known, hex_front, five_appended}
use Rattle.report_text.proofs.report.five_lines.Goals as goal
use Rattle.report_text.proofs.report.five_lines.Goals.{After-len, After-write_hex, After-unwrap-n, Start}

sized : (c : Start) → length c.args.hash.bytes ≡ longest
sized c = search rules

good : (c : Start) → hash_in_range c.args.hash ≡ true
good c = search rules

long : (c : After-len) → c.len.result ≡ Ok (length (digest_of c.args.hash))
long c = let here = (goal.at.After-len c).Start in len_known c.args.hash (good here) (sized here) c.len.ensures

wrote : (c : After-write_hex) → c.write_hex.result ≡ Ok (length (hex_of (digest_of c.args.hash)))
wrote c = let here = (goal.at.After-write_hex c).Start in hex_known c.args.hash (good here) (sized here) _ (omega arith) c.write_hex.ensures.0

pub unwrap-length-requires : goal.unwrap-length-requires
unwrap-length-requires c = ap is_ok (long (goal.at.unwrap-length-requires c).After-len)

pub unwrap-n-requires : goal.unwrap-n-requires
unwrap-n-requires c = ap is_ok (wrote (goal.at.unwrap-n-requires c).After-write_hex)

-- the digits that were made
count : (c : After-unwrap-n) → c.unwrap-n.result ≡ length (hex_of (digest_of c.args.hash))
count c = ap (value_in 0) (sym c.unwrap-n.ensures ∙ wrote (goal.at.After-unwrap-n c).After-write_hex)

made : (c : After-unwrap-n) → take c.unwrap-n.result c.write_hex.new.out ≡ hex_of (digest_of c.args.hash)
made c =
    let here = (goal.at.After-unwrap-n c).Start in
    rw (count c, c.write_hex.ensures.1) (hex_front c.args.hash (good here) (sized here) _ (omega arith))

pub slice_bounds-digits-end : goal.slice_bounds-digits-end
slice_bounds-digits-end c =
    let here = (goal.at.slice_bounds-digits-end c).After-unwrap-n in
    let n = count here in
    let l = length-take c.unwrap-n.result c.write_hex.new.out in
    let m = ap length (made here) in
    omega arith

pub slice_bounds-line-end-4 : goal.slice_bounds-line-end-4
slice_bounds-line-end-4 c = let here = (goal.at.slice_bounds-line-end-4 c).After-unwrap-n in count here ∙ sym (ap length (made here))

pub returns : goal.returns
returns c =
    let here = goal.at.returns c in
    let h = c.args.hash in
    let n = ap (value_in 0) (sym c.unwrap-length.ensures ∙ long here.After-len) in
    rw (c.line-2.ensures.text, c.number-3.ensures.text, c.number-2.ensures.text, c.number.ensures.text, c.line.ensures.text, c.new.ensures, n, made here.After-unwrap-n)
    (five_appended (length (digest_of h)) c.args.count (digest_of h))
