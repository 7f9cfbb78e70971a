-- The calls (document 01, "What a call answers"): the checks, the streams, the walk, then the buffer.
use Rattle.std.specs.Prelude.{ℕ, ◌≤◌, Bool, true, false, List, [], ◌∷◌, ◌++◌, ◌↔◌, ◌≡◌, leb, length, drop, replicate, Result, Ok, Err}
use Rattle.wire.specs.Field.{pick}
use Rattle.streams.specs.Refusal.{number_of, detail_of}
use Rattle.streams.specs.Stream.{none, checked}
use Rattle.streams.specs.declared.refusal.StreamKind.TheVariants.{Types, Ids}
use Rattle.streams.specs.declared.refusal.Refusal.{Refusal}
use Rattle.streams.specs.declared.refusal.Refusal.TheVariants.{Missing, CircularTypeDefinition, TooManyOpen, ChainTooLong, NoRoom}
use Rattle.streams.specs.declared.stream.Stream.{Stream}
use Rattle.interpreter.specs.Trace.{
  Note,
  again,
  deep,
  long,
  End,
  done,
  missing,
  refused,
  halted,
  unfinished,
  Count,
  count,
  Trace,
  tr,
  Finished,
  held,
}
use Rattle.rules.specs.Flags.{Settings, settings, sized, flagged}
use Rattle.rules.specs.Record.{Table, table_of}
use Rattle.rules.specs.Task.{Task, by_itself, function_of, size_of, id_of}
use Rattle.rules.specs.Opening.{walked, plainly}

-- What a text call answers: a text, with the count of indexes opened for it, or a refusal.
pub data Outcome : Type 0 where
  text : List ℕ → ℕ → Outcome
  stopped : Refusal → Outcome

-- How a trace's end is answered. Outside every type a missing record is refusal 8.
unfoldable pub answer : List ℕ → ℕ → End Refusal → Outcome
answer bs n done = text bs n
answer bs n (missing i) = stopped (Missing i)
answer bs n (refused f) = stopped f
answer bs n (halted (again i)) = stopped (CircularTypeDefinition i)
answer bs n (halted (deep i)) = stopped (TooManyOpen i)
answer bs n (halted (long i)) = stopped (ChainTooLong i)
answer bs n unfinished = stopped NoRoom

-- "15: next byte does not fit": the first byte without room comes before whatever the end is.
unfoldable pub within : ℕ → Trace Refusal → Outcome
within room (tr bs e ns c) = pick (leb (length bs) room) (answer bs c.opened e) (stopped NoRoom)

-- "A text fills the start of the lent buffer; bytes after it are unchanged. A refusal fills the buffer with zeros."
unfoldable pub buffer_after : List ℕ → Outcome → List ℕ
buffer_after out (text bs n) = bs ++ drop (length bs) out
buffer_after out (stopped f) = replicate (length out) 0

-- A refusal before the walk.
abbrev pub refusal : Refusal → Trace Refusal
refusal f = tr [] (refused f) [] (count 0 0)

-- What follows from the check of a stream.
unfoldable pub whole : Result Stream Refusal → (Stream → Trace Refusal) → Trace Refusal
whole (Ok t) k = k t
whole (Err f) k = refusal f

-- What is lent to a call besides what it asks: "Call checks come first, then stream checks (types, then ids where the call is for an id), then the walk".
-- How a task is read is handed in: the walk, or the plain reading of some depth.
module _ (read : Settings → Table → Task → Trace Refusal) where
  unfoldable pub over_types : ℕ → ℕ → List ℕ → Task → Trace Refusal
  over_types flags size types x =
      flagged flags
      (sized size (whole (checked Types types) (λ t. read (settings flags size) (table_of types t [] none) x)) refusal)
      refusal

  unfoldable pub over_ids : ℕ → ℕ → List ℕ → List ℕ → Task → Trace Refusal
  over_ids flags size types ids x =
      flagged flags
      (sized size (whole (checked Types types) (λ t. whole (checked Ids ids) (λ u. read (settings flags size) (table_of types t ids u) x))) refusal)
      refusal

  -- The reading of each text call: of a function by its name bytes and type index, of an id, of a type.
  unfoldable pub function_reading : ℕ → ℕ → List ℕ → List ℕ → ℕ → Trace Refusal
  function_reading flags size types name index = over_types flags size types (function_of index name)

  unfoldable pub id_reading : ℕ → ℕ → List ℕ → List ℕ → ℕ → Trace Refusal
  id_reading flags size types ids index = over_ids flags size types ids (id_of index)

  unfoldable pub type_reading : ℕ → ℕ → List ℕ → ℕ → Trace Refusal
  type_reading flags size types index = over_types flags size types (by_itself index)

  -- "A size call takes no flags."
  unfoldable pub size_reading : ℕ → List ℕ → ℕ → Trace Refusal
  size_reading size types index =
      sized size (whole (checked Types types) (λ t. read (settings 0 size) (table_of types t [] none) (size_of index 0))) refusal

-- The walk, and the plain reading so many deep, with nothing open.
abbrev pub strictly : Settings → Table → Task → Trace Refusal
strictly c t x = walked c t (held 0 []) x

abbrev pub plain_to : ℕ → Settings → Table → Task → Trace Refusal
plain_to n c t x = plainly c t n (held 0 []) x

-- The answers of the three text calls, given the length of the lent buffer.
unfoldable pub function_outcome : ℕ → ℕ → List ℕ → List ℕ → ℕ → ℕ → Outcome
function_outcome flags size types name index room = within room (function_reading strictly flags size types name index)

unfoldable pub id_outcome : ℕ → ℕ → List ℕ → List ℕ → ℕ → ℕ → Outcome
id_outcome flags size types ids index room = within room (id_reading strictly flags size types ids index)

unfoldable pub type_outcome : ℕ → ℕ → List ℕ → ℕ → ℕ → Outcome
type_outcome flags size types index room = within room (type_reading strictly flags size types index)

-- What a size call answers: a size or a refusal. Its walk writes one number.
pub data Size : Type 0 where
  size_bytes : ℕ → Size
  unsized : Refusal → Size

unfoldable pub size_answer : Outcome → Size
size_answer (text [] n) = size_bytes 0
size_answer (text (b ∷ bs) n) = size_bytes b
size_answer (stopped f) = unsized f

unfoldable pub size_outcome : ℕ → List ℕ → ℕ → Size
size_outcome size types index = size_answer (within 1 (size_reading strictly size types index))

-- What a call tells beside the buffer: the refusal's number, or 0; its detail, or 0; the length of the text or the size, or 0 where it is refused.
pub record Report : Type 0 where
  pub number : ℕ
  pub detail : ℕ
  pub value : ℕ

abbrev pub report : ℕ → ℕ → ℕ → Report
report n d v = record { number = n; detail = d; value = v }

-- What a refusal tells, and what is told where nothing is refused.
abbrev pub refused_by : Refusal → Report
refused_by f = report (number_of f) (detail_of f) 0

abbrev pub accepted : ℕ → Report
accepted n = report 0 0 n

-- What the text calls tell: "a text fills the start of the lent buffer", so its length says where it ends. And what the size call tells.
unfoldable pub of_text : Outcome → Report
of_text (text bs n) = accepted (length bs)
of_text (stopped f) = refused_by f

unfoldable pub of_size : Size → Report
of_size (size_bytes n) = accepted n
of_size (unsized f) = refused_by f

-- What was noted along a reading: an index opened while open, a limit passed.
unfoldable pub met_again : List Note → Bool
met_again [] = false
met_again (again i ∷ ns) = true
met_again (deep i ∷ ns) = met_again ns
met_again (long i ∷ ns) = met_again ns

unfoldable pub limit_passed : List Note → Bool
limit_passed [] = false
limit_passed (again i ∷ ns) = limit_passed ns
limit_passed (deep i ∷ ns) = true
limit_passed (long i ∷ ns) = true

-- The plain reading ends in a text: "some number of steps, each taking up one index, finishes it", no index was met again while under way and no limit
-- was passed. `reading n` is the plain reading with tasks taken up at most n deep.
pub record Reads (reading : ℕ → Trace Refusal) (bs : List ℕ) (n : ℕ) : Type 0 where
  pub steps : ℕ
  pub notes : List Note
  pub ended : reading steps ≡ tr bs done notes (count n steps)
  pub not_again : met_again notes ≡ false
  pub not_passed : limit_passed notes ≡ false

-- Demand 3 of a call, by its reading, given how a task is read. The call's walk ends, so 15 is said only of bytes that do not fit. There is a text exactly where
-- the plain reading ends in it so and the buffer is long enough, and it is that text; the plain reading ends in at most one text; where it never ends there
-- is none, however long the buffer.
pub record Demand (reading : (Settings → Table → Task → Trace Refusal) → Trace Refusal) : Type 0 where
  pub finished : Finished (reading strictly)
  pub exactly : (room : ℕ) (bs : List ℕ) (n : ℕ) → (within room (reading strictly) ≡ text bs n) ↔ (Reads (λ n. reading (plain_to n)) bs n × (length bs ≤ room))
  pub one : (n m : ℕ) (bs cs : List ℕ) (ns ms : List Note) (k l : Count) → reading (plain_to n) ≡ tr bs done ns k → reading (plain_to m) ≡ tr cs done ms l → bs ≡ cs
  pub never : ((n : ℕ) → ¬ (Finished (reading (plain_to n)))) → (room : ℕ) (bs : List ℕ) (n : ℕ) → ¬ (within room (reading strictly) ≡ text bs n)

-- Demand 3 of each text call.
abbrev pub FunctionDemand : ℕ → ℕ → List ℕ → List ℕ → ℕ → Type 0
FunctionDemand flags size types name index = Demand (λ read. function_reading read flags size types name index)

abbrev pub IdDemand : ℕ → ℕ → List ℕ → List ℕ → ℕ → Type 0
IdDemand flags size types ids index = Demand (λ read. id_reading read flags size types ids index)

abbrev pub TypeDemand : ℕ → ℕ → List ℕ → ℕ → Type 0
TypeDemand flags size types index = Demand (λ read. type_reading read flags size types index)

-- The walk of a size call ends too.
abbrev pub SizeFinished : ℕ → List ℕ → ℕ → Type 0
SizeFinished size types index = Finished (size_reading strictly size types index)
