-- Streams (document 01, "Streams and records"): the header, the records that tile the bytes behind it, and the record of an index.
use Rattle.std.specs.Prelude.{ℕ, zero, suc, ◌+◌, ◌-◌, Bool, false, List, length, take, drop, leb, ltb, eqb, Option, Some, Result, Ok, Err}
use Rattle.wire.specs.Field.{pick, field}
use Rattle.streams.specs.declared.refusal.StreamKind.{StreamKind}
use Rattle.streams.specs.declared.refusal.StreamKind.TheVariants as stream
use Rattle.streams.specs.declared.refusal.Refusal.TheVariants.{Header, Tiling}
use Rattle.streams.specs.declared.stream.Stream.{Stream}
use Rattle.streams.specs.declared.stream.Cursor.{Cursor}
use Rattle.streams.specs.declared.stream.RecordAt.{RecordAt}
use Rattle.streams.specs.declared.stream.Absent.{Absent}
use Rattle.streams.specs.declared.stream.Absent.TheVariants as absent
use Rattle.streams.specs.declared.refusal.Refusal.{Refusal}

-- What follows from the two indexes and the record bytes of a header: they are handed on with the place where the records stop. "At 8 first index, at
-- least 0x1000; at 12 end index, at least the first and at most 0x80000000; at 16 record bytes, at most the length less 56."
unfoldable pub indexes : {A : Type 0} → List ℕ → (ℕ → ℕ → ℕ → A) → A → A
indexes s good broken =
    field 4 s 8
    (λ first. field 4 s 12
    (λ end. field 4 s 16
    (λ bytes.
    pick (leb 0x1000 first)
    (pick (leb first end)
    (pick (leb end 0x8000_0000)
    (pick (leb bytes (length s - 56))
    (good first end (56 + bytes))
    broken) broken) broken) broken)
    broken) broken) broken

-- What follows from a header. "A stream has at most 16,777,216 bytes, or 3. LLVM's 56-byte header: at 4 the header size, 56."
unfoldable pub header : {A : Type 0} → List ℕ → (ℕ → ℕ → ℕ → A) → A → A
header s good broken =
    pick (leb (length s) 16_777_216)
    (pick (leb 56 (length s))
    (field 4 s 4 (λ size. pick (eqb size 56) (indexes s good broken) broken) broken)
    broken) broken

-- What follows from the record at a place: the place behind it is handed on. "A record is a u16 length of what follows (at least 2), a u16 kind, fields."
unfoldable pub behind : {A : Type 0} → List ℕ → ℕ → (ℕ → A) → A → A
behind s at next beyond =
    field 2 s at
    (λ len. pick (leb 2 len) (pick (leb (at + 2 + len) (length s)) (next (at + 2 + len)) beyond) beyond)
    beyond

-- The same behind so many records.
unfoldable pub passed : {A : Type 0} → ℕ → List ℕ → ℕ → (ℕ → A) → A → A
passed zero s at next beyond = next at
passed (suc n) s at next beyond = behind s at (λ at. passed n s at next beyond) beyond

-- "Records tile the bytes and number end less first": passing so many leads from the header to their end.
unfoldable pub tiled : ℕ → List ℕ → Bool
tiled n s = passed n s 56 (λ at. eqb at (length s)) false

-- No stream: what stands for ids that are not there, and for a stream that was refused.
abbrev pub none : Stream
none = record { first = 0; end = 0; stop = 0 }

-- The numbers of a header as a stream, where it has one.
abbrev pub headed : ℕ → ℕ → ℕ → Option Stream
headed first end stop = Some (record { first = first; end = end; stop = stop })

-- The record that stands for an index.
abbrev pub stands : ℕ → ℕ → ℕ → Result RecordAt Absent
stands kind start end = Ok (record { kind = kind; start = start; end = end })

-- Whether a stream is one of no ids. "An id stream of length 0 now means no ids at all .. The type stream keeps its header." (document 02, Note 1)
unfoldable pub no_ids : StreamKind → List ℕ → Bool
no_ids stream.Types s = false
no_ids stream.Ids s = eqb (length s) 0

-- The check of a stream with a broken header: 3, but "Refusal 3 is no longer given for an id stream of length 0" (Note 1).
unfoldable pub headless : StreamKind → List ℕ → Result Stream Refusal
headless which s = pick (no_ids which s) (Ok none) (Err (Header which))

-- The check of a stream: 3 where the header is broken, 4 where the records do not tile.
unfoldable pub checked : StreamKind → List ℕ → Result Stream Refusal
checked which s =
    header s
    (λ first end stop.
    pick (tiled (end - first) (take stop s)) (Ok (record { first = first; end = end; stop = stop })) (Err (Tiling which)))
    (headless which s)

-- What follows from the record at a place: its kind is handed on, with the place where its fields start and the place behind them.
unfoldable pub record_at : {A : Type 0} → List ℕ → ℕ → (ℕ → ℕ → ℕ → A) → A → A
record_at s at found missing = behind s at (λ next. field 2 s (at + 2) (λ kind. found kind (at + 4) next) missing) missing

-- The record behind so many others from a place on.
unfoldable pub record_behind : ℕ → List ℕ → ℕ → Result RecordAt Absent
record_behind n s from = passed n s from (λ at. record_at s at stands (Err absent.Missing)) (Err absent.Missing)

-- The number of an index from another on: 8 for one that is before that or not before an end, 6 for one with bit 31 set.
unfoldable pub number_from : ℕ → ℕ → ℕ → Result ℕ Absent
number_from first end index =
    pick (leb 0x8000_0000 index)
    (Err absent.CrossModule)
    (pick (ltb index first)
    (Err absent.Missing)
    (pick (leb end index)
    (Err absent.Missing)
    (Ok (index - first))))

-- What follows from an index, by the walk from a record that stands before it: the index is handed on with the place of its record; 8 for one that is not in
-- the stream, 6 for one with bit 31 set.
unfoldable pub walk_from : {A : Type 0} → List ℕ → Stream → Cursor → ℕ → (Cursor → A) → A → A → A
walk_from s t from index found missing cross_module =
    pick (leb 0x8000_0000 index)
    cross_module
    (pick (ltb index from.index)
    missing
    (pick (leb t.end index)
    missing
    (passed (index - from.index) (take t.stop s) from.at (λ at. found (record { index = index; at = at })) missing)))

-- The first record stands behind the header.
abbrev pub first_record : Stream → Cursor
first_record t = record { index = t.first; at = 56 }

-- What follows from an index, by the same walk: its record is handed on.
unfoldable pub look_from : {A : Type 0} → List ℕ → Stream → Cursor → ℕ → (ℕ → ℕ → ℕ → A) → A → A → A
look_from s t from index found missing cross_module =
    walk_from s t from index (λ c. record_at (take t.stop s) c.at found missing) missing cross_module

-- The same from the first record on: what an index stands for.
abbrev pub look_up : {A : Type 0} → List ℕ → Stream → ℕ → (ℕ → ℕ → ℕ → A) → A → A → A
look_up s t index found missing cross_module = look_from s t (first_record t) index found missing cross_module

-- The bytes from a place up to another.
unfoldable pub part : List ℕ → ℕ → ℕ → List ℕ
part s start end = take (end - start) (drop start s)
