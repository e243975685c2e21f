-- What a read of the machine's makes of a report: the record of the promise, and how the code's values are read as what it speaks of.
-- Assumes nothing.
use Rattle.std.specs.Prelude.{Bool, true, false, ℕ, ℤ, pos, negsuc, Result, Ok, Err}
use Rattle.std.specs.declared.ops.ControlFlow.{ControlFlow}
use Rattle.std.specs.declared.ops.ControlFlow.TheVariants.{Continue, Break}
use Rattle.report_text.specs.declared.report.Report.{Report}

-- a report after a read, and whether there may be more to read
pub record Reading : Type 0 where
  pub report : Report
  pub more : Bool

abbrev pub as_reading : ControlFlow Report Report → Reading
as_reading (Continue r) = record { report = r; more = true }
as_reading (Break r) = record { report = r; more = false }

-- the number that a read answered: less than 0 where it failed
abbrev pub as_got : {E : Type 0} → Result ℕ E → ℤ
as_got (Ok n) = pos n
as_got (Err e) = negsuc 0
