-- What a measure tells by number, detail, length and count, and how it is read off a pen.
use Rattle.std.specs.Prelude.{ℕ, Result, Ok, Err}
use Rattle.streams.specs.Refusal.{number_of, detail_of}
use Rattle.streams.specs.declared.refusal.Refusal.TheVariants as refusal
use Rattle.pen.specs.declared.Stop.{Stop}
use Rattle.pen.specs.declared.Stop.TheVariants as stop
use Rattle.rules.specs.Measure.{MeasureReport, report_of}
use Rattle.measures.specs.declared.answer.Extent.{Extent}
use Rattle.streams.specs.declared.refusal.Refusal.{Refusal}

-- After a refusal both numbers are 0 (docs/READINGS.md; the Note leaves it open).
unfoldable pub of_measured : (Result Extent Refusal) → MeasureReport
of_measured (Ok e) = report_of 0 0 e.length e.opened
of_measured (Err f) = report_of (number_of f) (detail_of f) 0 0

abbrev pub extent : ℕ → ℕ → Extent
extent n m = record { length = n; opened = m }

-- The answer by where and how a pen stopped and what it counted. Outside every type a missing record is refusal 8.
abbrev pub measured_by : Stop → ℕ → ℕ → (Result Extent Refusal)
measured_by stop.No n m = Ok (extent n m)
measured_by (stop.Missing i) n m = Err (refusal.Missing i)
measured_by (stop.Refused f) n m = Err f
