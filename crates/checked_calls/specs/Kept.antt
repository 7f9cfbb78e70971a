-- What is kept of a check is that of these bytes: the answer of the check, and places by which every record is found where it stands. Then the calls over it are
-- the plain calls.
use Rattle.std.specs.Prelude.{ℕ, ◌+◌, ◌-◌, ◌/◌, ◌≤◌, ◌<◌, min, ◌≡◌, List, ◌++◌, length, take, drop, get_or, replicate, Result, Ok}
use Rattle.streams.specs.Stream.{header, checked}
use Rattle.streams.specs.Places.{RightFor, NotedFor, strided}
use Rattle.streams.specs.Bounds.{stream_in, spacing_in, check_in, places_in, bounds_of}
use Rattle.streams.specs.declared.refusal.StreamKind.{StreamKind}
use Rattle.streams.specs.declared.refusal.StreamKind.TheVariants.{Types, Ids}
use Rattle.streams.specs.declared.stream.Stream.{Stream}
use Rattle.streams.specs.declared.places.NotedCheck.{NotedCheck}
use Rattle.record_places.specs.RecordPlaces.{lent_places}
use Rattle.rules.specs.Places.{Near, near}
use Rattle.streams.specs.declared.refusal.Refusal.{Refusal}

pub record KeptOf (which : StreamKind) (s : List ℕ) (v : Near) : Type 0 where
  pub check : check_in v.bounds which ≡ checked which s
  pub stream : (t : Stream) → checked which s ≡ Ok t → stream_in v.bounds which ≡ t
  pub right : (t : Stream) → checked which s ≡ Ok t → RightFor (spacing_in v.bounds which) (places_in v.bounds v.places which) s t

-- Of both streams.
pub record Kept (types ids : List ℕ) (v : Near) : Type 0 where
  pub of_types : KeptOf Types types v
  pub of_ids : KeptOf Ids ids v

-- The ids' check beside one of the types: the numbers of both, and behind them the places of the ids.
pub record KeptBeside (a : NotedCheck) (ids old new : List ℕ) : Type 0 where
  pub b : NotedCheck
  pub noted : NotedFor Ids ids (drop 19 old) (drop 19 new) b
  pub is : new ≡ bounds_of a b (length old - 19) ++ drop 19 new
  pub sized : length new ≡ length old

-- A check of the types whose places were lent: every 64th record has one (document 02, Note 3).
abbrev pub note_of : (Result Stream Refusal) → NotedCheck
note_of c = record { check = c; spacing = strided 64 0xffff_ffff }

-- What is kept for a call with lent places: the check of the types, and, where the places are those of the stream, what look-ups go by.
pub record LentKept (types ps ns : List ℕ) : Type 0 where
  pub check : check_in ns Types ≡ checked Types types
  pub kept : lent_places types ps ≡ (Ok tt) → KeptOf Types types (near ns ps)

-- A caller's buffer: the 19 numbers and the places of the ids, as many as the last of these says, and behind them the places of the types.
abbrev pub kept_in : List ℕ → Near
kept_in checked = near (take (19 + get_or checked 18 0) checked) (drop (19 + get_or checked 18 0) checked)

-- How many numbers of a buffer serve for two streams with a stride: the 19, and a place for every `stride`-th record of each. A stream without a header has no
-- record, one has no more than a fourth of its bytes, since a record has four at least, and a stride of 0 asks for no place.
unfoldable pub record_count : List ℕ → ℕ
record_count s = header s (λ first end stop. min (end - first) (stop / 4)) 0

unfoldable pub places_for : ℕ → ℕ → ℕ
places_for stride n = (n + (stride - 1)) / stride

unfoldable pub serving : ℕ → List ℕ → List ℕ → ℕ
serving stride types ids = 19 + (places_for stride (record_count types) + places_for stride (record_count ids))

-- What a check leaves in a buffer: what is kept of it, where the buffer has the 19 numbers and is no longer than a number can say; else zeros.
pub record Filled (types ids old new : List ℕ) : Type 0 where
  pub kept : 19 ≤ length old → length old ≤ 0xffff_ffff → Kept types ids (kept_in new)
  pub short : length old < 19 → new ≡ replicate (length old) 0
  pub long : 0xffff_ffff < length old → new ≡ replicate (length old) 0
