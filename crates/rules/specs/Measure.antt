-- Measuring (document 02, Note 4): "Give, without writing, the length of the text a call would write and the number of indexes it would open".
use Rattle.std.specs.Prelude.{ℕ, ◌+◌, ◌*◌, ◌≤◌, ◌<◌, List, ◌↔◌, ◌≡◌, length}
use Rattle.streams.specs.Refusal.{number_of, detail_of}
use Rattle.streams.specs.declared.refusal.Refusal.{Refusal}
use Rattle.streams.specs.declared.refusal.Refusal.TheVariants.{NoRoom, WrongPlace}
use Rattle.interpreter.specs.Trace.{Trace}
use Rattle.rules.specs.Flags.{Settings}
use Rattle.rules.specs.Record.{Table}
use Rattle.rules.specs.Task.{Task}
use Rattle.rules.specs.Call.{Outcome, text, stopped, within, function_reading, id_reading, type_reading, strictly, plain_to, function_outcome, id_outcome, type_outcome, Reads, Demand}
use Rattle.rules.specs.Placed.{with_places, function_placed, id_placed, type_placed, PlacedDemand}

-- What a measure answers: how long the text is and how many indexes are opened for it, or a refusal.
pub data Measure : Type 0 where
  measured : ℕ → ℕ → Measure
  unmeasured : Refusal → Measure

-- "Both are those of the definition": an outcome has the text and the count, "a repeat counted each time; function type 0, and an index written by itself that
-- a mark replaces, are not opened" (`entry_of`).
unfoldable pub measure_of : Outcome → Measure
measure_of (text bs n) = measured (length bs) n
measure_of (stopped f) = unmeasured f

-- "Refusals are those of the text call with a buffer of 16,777,215 bytes, 15 included."
abbrev pub longest : ℕ
longest = 16_777_215

-- The measure of a function, of an id, of a type.
unfoldable pub function_measure : ℕ → ℕ → List ℕ → List ℕ → ℕ → Measure
function_measure flags size types name index = measure_of (function_outcome flags size types name index longest)

unfoldable pub id_measure : ℕ → ℕ → List ℕ → List ℕ → ℕ → Measure
id_measure flags size types ids index = measure_of (id_outcome flags size types ids index longest)

unfoldable pub type_measure : ℕ → ℕ → List ℕ → ℕ → Measure
type_measure flags size types index = measure_of (type_outcome flags size types index longest)

-- The same with lent places (Note 3).
unfoldable pub function_placed_measure : ℕ → ℕ → List ℕ → List ℕ → List ℕ → ℕ → Measure
function_placed_measure flags size types ps name index = measure_of (function_placed flags size types ps name index longest)

unfoldable pub id_placed_measure : ℕ → ℕ → List ℕ → List ℕ → List ℕ → ℕ → Measure
id_placed_measure flags size types ids ps index = measure_of (id_placed flags size types ids ps index longest)

unfoldable pub type_placed_measure : ℕ → ℕ → List ℕ → List ℕ → ℕ → Measure
type_placed_measure flags size types ps index = measure_of (type_placed flags size types ps index longest)

-- What a measure tells: the refusal's number, or 0; its detail, or 0; the length and the count, both 0 where it is refused.
pub record MeasureReport : Type 0 where
  pub number : ℕ
  pub detail : ℕ
  pub length : ℕ
  pub opened : ℕ

abbrev pub report_of : ℕ → ℕ → ℕ → ℕ → MeasureReport
report_of n d l o = record { number = n; detail = d; length = l; opened = o }

unfoldable pub of_measure : Measure → MeasureReport
of_measure (measured n m) = report_of 0 0 n m
of_measure (unmeasured f) = report_of (number_of f) (detail_of f) 0 0

-- What the measure of a reading says of the text call that reads the same. "A buffer of that length is always enough": it gets the text, of that length, for
-- which so many indexes are opened. "And one byte less never is, for a text that has bytes": a shorter buffer gets 15. A measure is refused exactly where the
-- text call with the longest buffer is, by the same refusal. Every text that is no longer is measured. And openings are bounded by bytes.
pub record Fits (t : Trace Refusal) : Type 0 where
  pub enough : (n m : ℕ) → measure_of (within longest t) ≡ measured n m → (room : ℕ) → n ≤ room
      → (bs : List ℕ) × ((within room t ≡ text bs m) × (length bs ≡ n))
  pub short : (n m : ℕ) → measure_of (within longest t) ≡ measured n m → (room : ℕ) → room < n → within room t ≡ stopped NoRoom
  pub refusals : (f : Refusal) → (measure_of (within longest t) ≡ unmeasured f) ↔ (within longest t ≡ stopped f)
  pub every : (room : ℕ) (bs : List ℕ) (m : ℕ) → within room t ≡ text bs m → length bs ≤ longest → measure_of (within longest t) ≡ measured (length bs) m
  pub few : (n m : ℕ) → measure_of (within longest t) ≡ measured n m → m ≤ 3_200 * (n + 1)

-- Demand 3 of a measure: it gives two numbers exactly where the plain reading ends in a text of that length, for which so many indexes are opened, no index
-- is met again, no limit is passed and the text has at most 16,777,215 bytes. And demand 3 of the text call stands.
pub record MeasureDemand (reading : (Settings → Table → Task → Trace Refusal) → Trace Refusal) : Type 0 where
  pub fits : Fits (reading strictly)
  pub exactly : (n m : ℕ) → (measure_of (within longest (reading strictly)) ≡ measured n m)
      ↔ ((bs : List ℕ) × (Reads (λ n. reading (plain_to n)) bs m × ((length bs ≡ n) × (n ≤ longest))))
  pub plain : Demand reading

-- The same with lent places; it "leaves calls with a 17 out".
pub record PlacedMeasureDemand (types ps : List ℕ) (reading : (Settings → Table → Task → Trace Refusal) → Trace Refusal) : Type 0 where
  pub fits : Fits (reading (with_places types ps strictly))
  pub exactly : ((k : ℕ) → ¬ (measure_of (within longest (reading (with_places types ps strictly))) ≡ unmeasured (WrongPlace k)))
      → (n m : ℕ) → (measure_of (within longest (reading (with_places types ps strictly))) ≡ measured n m)
      ↔ ((bs : List ℕ) × (Reads (λ n. reading (plain_to n)) bs m × ((length bs ≡ n) × (n ≤ longest))))
  pub placed : PlacedDemand types ps reading

abbrev pub FunctionMeasureDemand : ℕ → ℕ → List ℕ → List ℕ → ℕ → Type 0
FunctionMeasureDemand flags size types name index = MeasureDemand (λ read. function_reading read flags size types name index)

abbrev pub IdMeasureDemand : ℕ → ℕ → List ℕ → List ℕ → ℕ → Type 0
IdMeasureDemand flags size types ids index = MeasureDemand (λ read. id_reading read flags size types ids index)

abbrev pub TypeMeasureDemand : ℕ → ℕ → List ℕ → ℕ → Type 0
TypeMeasureDemand flags size types index = MeasureDemand (λ read. type_reading read flags size types index)

abbrev pub FunctionPlacedMeasureDemand : ℕ → ℕ → List ℕ → List ℕ → List ℕ → ℕ → Type 0
FunctionPlacedMeasureDemand flags size types ps name index = PlacedMeasureDemand types ps (λ read. function_reading read flags size types name index)

abbrev pub IdPlacedMeasureDemand : ℕ → ℕ → List ℕ → List ℕ → List ℕ → ℕ → Type 0
IdPlacedMeasureDemand flags size types ids ps index = PlacedMeasureDemand types ps (λ read. id_reading read flags size types ids index)

abbrev pub TypePlacedMeasureDemand : ℕ → ℕ → List ℕ → List ℕ → ℕ → Type 0
TypePlacedMeasureDemand flags size types ps index = PlacedMeasureDemand types ps (λ read. type_reading read flags size types index)
