-- Reading an index: the record that it stands for, or the refusal (document 01, rows 5 to 8 of the table).
use Rattle.std.specs.Prelude.{ℕ, ◌/◌, ◌%◌, List, leb, ltb, take, Result, Ok, Err}
use Rattle.wire.specs.Field.{pick}
use Rattle.primitives.specs.Primitive.{primitives, first_of}
use Rattle.streams.specs.Stream.{record_at, first_record, look_from, part}
use Rattle.streams.specs.Places.{nearest}
use Rattle.streams.specs.Bounds.{stream_in, spacing_in, places_in}
use Rattle.streams.specs.declared.refusal.StreamKind.TheVariants.{Types, Ids}
use Rattle.codeview.specs.Record.{type_of}
use Rattle.codeview.specs.IdRecord.{id_data_of}
use Rattle.streams.specs.declared.refusal.Refusal.TheVariants.{Malformed, Missing, CrossModule}
use Rattle.streams.specs.declared.stream.Stream.{Stream}
use Rattle.streams.specs.declared.stream.Absent.{Absent}
use Rattle.streams.specs.declared.stream.Absent.TheVariants as absent
use Rattle.streams.specs.declared.stream.Cursor.{Cursor}
use Rattle.streams.specs.declared.places.Spacing.{Spacing}
use Rattle.codeview.specs.declared.record.TypeData.TheVariants as type
use Rattle.streams.specs.declared.refusal.Refusal.{Refusal}
use Rattle.codeview.specs.declared.record.TypeData.{TypeData}
use Rattle.codeview.specs.declared.record.IdData.{IdData}

-- "A type index below 0x1000 is a primitive: low byte one of 43 kinds of cvinfo.h .. bits 8 to 11 the indirection, 0 to 7; any other is missing."
unfoldable pub primitive_of : ℕ → Result TypeData Refusal
primitive_of index =
    pick (leb (index / 256) 7)
    (first_of (index % 256) primitives
    (λ kind. Ok (type.Primitive (record { code = index % 256; indirection = index / 256 })))
    (Err (Missing index)))
    (Err (Missing index))

-- Why no record of an index is read.
abbrev pub absent_refusal : Absent → ℕ → Refusal
absent_refusal absent.Missing index = Missing index
absent_refusal absent.CrossModule index = CrossModule index

-- What a type index stands for, by the walk from a record that stands before it.
unfoldable pub type_from : List ℕ → Stream → Cursor → ℕ → Result TypeData Refusal
type_from s t from index =
    pick (ltb index 0x1000)
    (primitive_of index)
    (look_from s t from index
    (λ kind start end. type_of (Err (Malformed index)) start kind (part s start end))
    (Err (Missing index))
    (Err (CrossModule index)))

-- What a type index stands for in a checked stream.
abbrev pub read_type : List ℕ → Stream → ℕ → Result TypeData Refusal
read_type s t index = type_from s t (first_record t) index

-- The same by places, whatever they are: the walk starts at the nearest.
abbrev pub read_type_by : Spacing → List ℕ → List ℕ → Stream → ℕ → Result TypeData Refusal
read_type_by l ps s t index = type_from s t (nearest l ps t index) index

-- The same, where the bounds of both streams, and how their places are laid out, are lent as numbers.
abbrev pub read_type_in : List ℕ → List ℕ → List ℕ → ℕ → Result TypeData Refusal
read_type_in s bounds places index = read_type_by (spacing_in bounds Types) (places_in bounds places Types) s (stream_in bounds Types) index

-- The same where the place of the index's record is known.
unfoldable pub type_in : List ℕ → Stream → ℕ → ℕ → Result TypeData Refusal
type_in s t at index =
    record_at (take t.stop s) at
    (λ kind start end. type_of (Err (Malformed index)) start kind (part s start end))
    (Err (Missing index))

-- What an id index stands for, by such a walk; in a checked stream; and by places.
unfoldable pub id_from : List ℕ → Stream → Cursor → ℕ → Result IdData Refusal
id_from s t from index =
    look_from s t from index
    (λ kind start end. id_data_of (Err (Malformed index)) start kind (part s start end))
    (Err (Missing index))
    (Err (CrossModule index))

abbrev pub read_id : List ℕ → Stream → ℕ → Result IdData Refusal
read_id s t index = id_from s t (first_record t) index

abbrev pub read_id_by : Spacing → List ℕ → List ℕ → Stream → ℕ → Result IdData Refusal
read_id_by l ps s t index = id_from s t (nearest l ps t index) index

abbrev pub read_id_in : List ℕ → List ℕ → List ℕ → ℕ → Result IdData Refusal
read_id_in s bounds places index = read_id_by (spacing_in bounds Ids) (places_in bounds places Ids) s (stream_in bounds Ids) index
