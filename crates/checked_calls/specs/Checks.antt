-- What the checks of a call come to, given what is kept of the stream checks; the answer of each call over them; and what a size call tells.
use Rattle.std.specs.Prelude.{ℕ, List, [], Result, Ok, Err}
use Rattle.streams.specs.declared.refusal.Refusal.{Refusal}
use Rattle.streams.specs.declared.refusal.Refusal.TheVariants.{WrongPlace}
use Rattle.streams.specs.Bounds.{check_in}
use Rattle.streams.specs.declared.refusal.StreamKind.TheVariants.{Types, Ids}
use Rattle.interpreter.specs.Trace.{Trace}
use Rattle.rules.specs.Flags.{sized, flagged}
use Rattle.rules.specs.Places.{Near, Lent, beside, table_in}
use Rattle.rules.specs.Task.{Task, by_itself, function_of, id_of, size_of}
use Rattle.rules.specs.Opening.{walked}
use Rattle.rules.specs.Call.{Outcome, Size, refusal, within, size_answer, Report, refused_by, accepted}
use Rattle.context.specs.Context.{settings_of, holding}
use Rattle.context.specs.declared.flags.Call.{Call}
use Rattle.context.specs.declared.flags.TypeFormatterFlags.{TypeFormatterFlags}
use Rattle.streams.specs.declared.stream.Stream.{Stream}

-- The call over checked streams, with no id of a chain of scopes passed yet.
abbrev pub call_over : TypeFormatterFlags → ℕ → Call
call_over flags size = record { flags = flags; size = size; chain = 0 }

-- What follows from the check of the types, and from the check of the ids.
abbrev pub with_types : TypeFormatterFlags → ℕ → (Result Stream Refusal) → (Result Call Refusal)
with_types flags size (Ok t) = Ok (call_over flags size)
with_types flags size (Err f) = Err f

abbrev pub with_ids : Call → (Result Stream Refusal) → (Result Call Refusal)
with_ids c (Ok u) = Ok c
with_ids c (Err f) = Err f

abbrev pub and_ids : (Result Call Refusal) → (Result Stream Refusal) → (Result Call Refusal)
and_ids (Ok c) u = with_ids c u
and_ids (Err f) u = Err f

-- "Call checks come first, then stream checks (types, then ids where the call is for an id)": the pointer size and the types; before them the flags; and
-- after them the ids.
unfoldable pub types_by : (Result Stream Refusal) → TypeFormatterFlags → ℕ → (Result Call Refusal)
types_by t flags size = sized size (with_types flags size t) Err

unfoldable pub call_by : (Result Stream Refusal) → ℕ → ℕ → (Result Call Refusal)
call_by t flags size = flagged flags (types_by t (record { 0 = flags }) size) Err

unfoldable pub ids_by : (Result Stream Refusal) → (Result Stream Refusal) → ℕ → ℕ → (Result Call Refusal)
ids_by t u flags size = and_ids (call_by t flags size) u

-- What a call reads: the walk of its task where its checks are good, and else their refusal.
abbrev pub performed : (Result Call Refusal) → (Call → Trace Refusal) → Trace Refusal
performed (Ok c) k = k c
performed (Err f) k = refusal f

-- What a call is refused with of whose lent places an entry is wrong (document 02, Note 3): 17, where its checks are good; and what it reads.
abbrev pub place_refusal : Result Call Refusal → ℕ → Refusal
place_refusal (Ok c) k = WrongPlace k
place_refusal (Err f) k = f

abbrev pub unplaced : (Result Call Refusal) → ℕ → Trace Refusal
unplaced r k = performed r (λ c. refusal (WrongPlace k))

-- The walk of a task over a checked call, with nothing open.
abbrev pub taken : List ℕ → Lent → Task → Call → Trace Refusal
taken types d x c = walked (settings_of c) (table_in types d) (holding c []) x

-- What a function call reads over what was kept of a check, whatever that is: its flags and pointer size are checked, then what is kept of the types' check is
-- looked at, then the function is walked. And its answer.
unfoldable pub function_walk : List ℕ → Near → ℕ → ℕ → List ℕ → ℕ → Trace Refusal
function_walk types v flags size name i = performed (call_by (check_in v.bounds Types) flags size) (taken types (beside [] v) (function_of i name))

unfoldable pub function_over : List ℕ → Near → ℕ → ℕ → List ℕ → ℕ → ℕ → Outcome
function_over types v flags size name i room = within room (function_walk types v flags size name i)

-- The same of an id call: the ids are looked at too.
unfoldable pub id_walk : List ℕ → List ℕ → Near → ℕ → ℕ → ℕ → Trace Refusal
id_walk types ids v flags size i = performed (ids_by (check_in v.bounds Types) (check_in v.bounds Ids) flags size) (taken types (beside ids v) (id_of i))

unfoldable pub id_over : List ℕ → List ℕ → Near → ℕ → ℕ → ℕ → ℕ → Outcome
id_over types ids v flags size i room = within room (id_walk types ids v flags size i)

-- The same of a type call: the checks of a function call, then the walk of the type by itself.
unfoldable pub type_walk : List ℕ → Near → ℕ → ℕ → ℕ → Trace Refusal
type_walk types v flags size i = performed (call_by (check_in v.bounds Types) flags size) (taken types (beside [] v) (by_itself i))

unfoldable pub type_over : List ℕ → Near → ℕ → ℕ → ℕ → ℕ → Outcome
type_over types v flags size i room = within room (type_walk types v flags size i)

-- The answer of a size call, which takes no flags. Its walk writes one number.
unfoldable pub size_over : List ℕ → Near → ℕ → ℕ → Size
size_over types v size i =
    size_answer (within 1 (performed (types_by (check_in v.bounds Types) (record { 0 = 0 }) size) (taken types (beside [] v) (size_of i 0))))

-- What each case of a size answer tells.
unfoldable pub of_size_answer : (Result ℕ Refusal) → Report
of_size_answer (Ok n) = accepted n
of_size_answer (Err f) = refused_by f
