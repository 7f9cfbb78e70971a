-- The calls with lent places (document 02, Note 3): "calls that take it accept any buffer, check it against the stream, and otherwise answer as the plain calls
-- do, on all inputs".
use Rattle.std.specs.Prelude.{ℕ, ◌≤◌, List, ◌↔◌, ◌⊎◌, ◌≡◌, length, Result, Ok, Err}
use Rattle.streams.specs.declared.refusal.Refusal.{Refusal}
use Rattle.streams.specs.declared.refusal.Refusal.TheVariants.{WrongPlace}
use Rattle.record_places.specs.RecordPlaces.{lent_places}
use Rattle.interpreter.specs.Trace.{Trace, Finished}
use Rattle.rules.specs.Flags.{Settings}
use Rattle.rules.specs.Record.{Table}
use Rattle.rules.specs.Task.{Task}
use Rattle.rules.specs.Call.{Outcome, text, stopped, Size, refusal, within, size_answer, function_reading, id_reading, type_reading, size_reading, strictly, plain_to, Reads, Demand}

-- What follows from lent places: "17, an entry lacking or not that of this stream".
unfoldable pub by_places : Result Unit ℕ → Trace Refusal → Trace Refusal
by_places (Ok tt) t = t
by_places (Err k) t = refusal (WrongPlace k)

-- How a task is read with lent places. They are looked at where the walk would begin, so 17 comes "after every 3 and 4".
unfoldable pub with_places : List ℕ → List ℕ → (Settings → Table → Task → Trace Refusal) → Settings → Table → Task → Trace Refusal
with_places types ps read c t x = by_places (lent_places types ps) (read c t x)

-- The answers of the four calls.
unfoldable pub function_placed : ℕ → ℕ → List ℕ → List ℕ → List ℕ → ℕ → ℕ → Outcome
function_placed flags size types ps name index room = within room (function_reading (with_places types ps strictly) flags size types name index)

unfoldable pub id_placed : ℕ → ℕ → List ℕ → List ℕ → List ℕ → ℕ → ℕ → Outcome
id_placed flags size types ids ps index room = within room (id_reading (with_places types ps strictly) flags size types ids index)

unfoldable pub type_placed : ℕ → ℕ → List ℕ → List ℕ → ℕ → ℕ → Outcome
type_placed flags size types ps index room = within room (type_reading (with_places types ps strictly) flags size types index)

unfoldable pub size_placed : ℕ → List ℕ → List ℕ → ℕ → Size
size_placed size types ps index = size_answer (within 1 (size_reading (with_places types ps strictly) size types index))

-- "Otherwise answer as the plain calls do, on all inputs": with the places of this stream a call reads what the plain call reads; with others it gives 17, or,
-- where its other checks refuse it, what the plain call gives. It always ends.
pub record AsPlain (types ps : List ℕ) (reading : (Settings → Table → Task → Trace Refusal) → Trace Refusal) : Type 0 where
  pub right : lent_places types ps ≡ Ok tt → reading (with_places types ps strictly) ≡ reading strictly
  pub wrong : (k : ℕ) → lent_places types ps ≡ Err k → (reading (with_places types ps strictly) ≡ refusal (WrongPlace k)) ⊎ (reading (with_places types ps strictly) ≡ reading strictly)
  pub finished : Finished (reading (with_places types ps strictly))

-- Demand 3 of a text call with lent places. It "leaves calls with a 17 out": of any other, there is a text exactly where the plain reading ends in it and the
-- buffer is long enough. And demand 3 of the plain call stands.
pub record PlacedDemand (types ps : List ℕ) (reading : (Settings → Table → Task → Trace Refusal) → Trace Refusal) : Type 0 where
  pub answers : AsPlain types ps reading
  pub exactly : (room : ℕ) → ((k : ℕ) → ¬ (within room (reading (with_places types ps strictly)) ≡ stopped (WrongPlace k)))
      → (bs : List ℕ) (n : ℕ) → (within room (reading (with_places types ps strictly)) ≡ text bs n) ↔ (Reads (λ n. reading (plain_to n)) bs n × (length bs ≤ room))
  pub plain : Demand reading

abbrev pub FunctionPlacedDemand : ℕ → ℕ → List ℕ → List ℕ → List ℕ → ℕ → Type 0
FunctionPlacedDemand flags size types ps name index = PlacedDemand types ps (λ read. function_reading read flags size types name index)

abbrev pub IdPlacedDemand : ℕ → ℕ → List ℕ → List ℕ → List ℕ → ℕ → Type 0
IdPlacedDemand flags size types ids ps index = PlacedDemand types ps (λ read. id_reading read flags size types ids index)

abbrev pub TypePlacedDemand : ℕ → ℕ → List ℕ → List ℕ → ℕ → Type 0
TypePlacedDemand flags size types ps index = PlacedDemand types ps (λ read. type_reading read flags size types index)

-- A size call answers as the plain one too.
abbrev pub SizeAsPlain : ℕ → List ℕ → List ℕ → ℕ → Type 0
SizeAsPlain size types ps index = AsPlain types ps (λ read. size_reading read size types index)
