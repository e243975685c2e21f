-- Two answers that meet a public promise are equal, for every public function: one law, cited of the contract itself.
-- Assumes nothing.
use mathlib.Core.Path.{◌≡◌, refl, sym, ap, ◌∙◌}
use mathlib.Core.Bool.{cond}
use Rattle.std.specs.declared.ops.ControlFlow.{ControlFlow}
use Rattle.std.specs.declared.ops.ControlFlow.TheVariants.{Continue, Break}
use Rattle.hash.proofs.Unique.{Unique, unique, length_settled}
use Rattle.report_text.specs.Answers.{Reading, as_reading}
use Rattle.report_text.specs.declared.report.Report.{Report}
use Rattle.report_text.proofs.report.Report.new.Reads as report_new
use Rattle.report_text.proofs.report.Report.take.Reads as report_take
use Rattle.report_text.proofs.report.Report.fail.Reads as report_fail
use Rattle.report_text.proofs.report.Report.read.Reads as report_read
use Rattle.report_text.proofs.report.Report.text.Reads as report_text

-- an answer of `read` is the one that is read as its record
told : (r : ControlFlow Report Report) → (let a = as_reading r in cond a.more (Continue a.report) (Break a.report)) ≡ r
told (Continue r) = refl
told (Break r) = refl

pub reading_settled : {r q : ControlFlow Report Report} → as_reading r ≡ as_reading q → r ≡ q
reading_settled {r} {q} e = sym (told r) ∙ ap (λ (a : Reading). cond a.more (Continue a.report) (Break a.report)) e ∙ told q

pub report_new_unique : Unique report_new.Post
report_new_unique κs args r q exit e f = unique e f

pub report_take_unique : Unique report_take.Post
report_take_unique κs args r q exit e f = unique e f

pub report_fail_unique : Unique report_fail.Post
report_fail_unique κs args r q exit e f = unique e f

pub report_read_unique : Unique report_read.Post
report_read_unique κs args r q exit e f = reading_settled (unique e f)

pub report_text_unique : (κs : _) (args : _) (r q : _) (x y : _) → report_text.Post κs args r x → report_text.Post κs args q y → (r ≡ q) × (x.1.0.now ≡ y.1.0.now)
report_text_unique κs args r q x y e f = (length_settled (unique e.0 f.0), unique e.1 f.1)
