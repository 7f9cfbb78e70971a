-- Places: where some records of a stream stand, noted so that a look-up starts at the nearest one at or before its record. All of this is total: whatever
-- numbers a list of places has, a walk starts somewhere. What places have to be for it to come to the right record is said by `RightMarks`.
use Rattle.std.specs.Prelude.{ℕ, ◌+◌, ◌-◌, ◌*◌, ◌/◌, ◌≤◌, ◌<◌, min, ◌≡◌, List, length, take, get_or, ltb, Option, Some, None, Ok}
use Rattle.wire.specs.Field.{pick}
use Rattle.streams.specs.Stream.{passed, checked}
use Rattle.streams.specs.declared.refusal.StreamKind.{StreamKind}
use Rattle.streams.specs.declared.stream.Stream.{Stream}
use Rattle.streams.specs.declared.stream.Cursor.{Cursor}
use Rattle.streams.specs.declared.places.Spacing.{Spacing}
use Rattle.streams.specs.declared.places.Mark.{Mark}
use Rattle.streams.specs.declared.places.Part.{Part}
use Rattle.streams.specs.declared.places.NotedCheck.{NotedCheck}

-- The first record, which needs no note.
abbrev pub first_mark : Mark
first_mark = record { number = 0; place = 56 }

-- The entry of a part that is nearest to a record: the last one at or before it, or the part's last.
abbrev pub entry_in : Spacing → ℕ → ℕ → ℕ
entry_in l base n = min ((n - base) / l.stride) (l.room - 1)

-- The mark of a record in a part whose entries start at `from`, and whose first record has the number `base`.
unfoldable pub mark_in : Spacing → List ℕ → ℕ → ℕ → ℕ → Mark
mark_in l ps from base n =
    pick (ltb (from + entry_in l base n) (length ps))
    (record { number = base + entry_in l base n * l.stride; place = get_or ps (from + entry_in l base n) 0 })
    first_mark

-- The mark of a record: by the part that it stands in.
unfoldable pub mark_by : Spacing → List ℕ → ℕ → Mark
mark_by l ps n =
    pick (ltb n l.second) (mark_in l ps 0 0 n)
    (pick (ltb n l.third) (mark_in l ps l.room l.second n)
    (pick (ltb n l.fourth) (mark_in l ps (2 * l.room) l.third n)
    (mark_in l ps (3 * l.room) l.fourth n)))

-- Where the walk to an index starts: at the mark of its record.
unfoldable pub nearest : Spacing → List ℕ → Stream → ℕ → Cursor
nearest l ps t index =
    record {
      index = t.first + (mark_by l ps (index - t.first)).number;
      at = (mark_by l ps (index - t.first)).place;
    }

-- Up to which record the same entry serves: the next entry's, or the first of the next part.
unfoldable pub serves_in : Spacing → ℕ → ℕ → ℕ → ℕ
serves_in l base next n = pick (ltb (entry_in l base n + 1) l.room) (min (base + (entry_in l base n + 1) * l.stride) next) next

unfoldable pub serves : Spacing → ℕ → ℕ
serves l n =
    pick (ltb n l.second) (serves_in l 0 l.second n)
    (pick (ltb n l.third) (serves_in l l.second l.third n)
    (pick (ltb n l.fourth) (serves_in l l.third l.fourth n)
    (serves_in l l.fourth 0x1_0000_0000 n)))

-- The same of indexes: those from an index up to this one are walked to from the same start.
unfoldable pub serves_until : Spacing → Stream → ℕ → ℕ
serves_until l t index = t.first + serves l (index - t.first)

-- Right marks: each record's mark is a record's number and its place.
abbrev pub RightMarks : Spacing → List ℕ → ℕ → List ℕ → Type 0
RightMarks l ps count s = (n : ℕ) → n < count → passed (mark_by l ps n).number s 56 Some None ≡ Some (mark_by l ps n).place

-- The same of a checked stream.
abbrev pub RightFor : Spacing → List ℕ → List ℕ → Stream → Type 0
RightFor l ps s t = RightMarks l ps (t.end - t.first) (take t.stop s)

-- Right places of a run of records: entry k from `base` on is the place of its record k * stride, for all of `room` entries that the run needs.
abbrev pub RightRun : List ℕ → ℕ → ℕ → ℕ → ℕ → ℕ → List ℕ → Type 0
RightRun s from count stride room base ps =
    (k : ℕ) → k < room → k * stride < count → passed (k * stride) s from Some None ≡ Some (get_or ps (base + k) 0)

-- Right places of a stream, as they are lent: entry k is the place of record k * stride.
abbrev pub RightPlaces : ℕ → List ℕ → ℕ → List ℕ → Type 0
RightPlaces stride ps count s = RightRun s 56 count stride (length ps) 0 ps

-- Places that stand for a whole stream, `room` of them in use.
abbrev pub strided : ℕ → ℕ → Spacing
strided stride room = record { stride = stride; room = room; second = 0xffff_ffff; third = 0xffff_ffff; fourth = 0xffff_ffff }

-- The part that a record stands in: its mark is that of the part, and it is served as the part's records are.
pub record Parted (l : Spacing) (n : ℕ) (r : Part) : Type 0 where
  pub low : r.base ≤ n
  pub near : r.from ≤ 3 * l.room
  pub fits : r.next ≤ 0x1_0000_0000
  pub mark : (ps : List ℕ) → mark_by l ps n ≡ mark_in l ps r.from r.base n
  pub until : serves l n ≡ serves_in l r.base r.next n

-- Places in four parts of `room` entries each, with so many records.
abbrev pub quartered : ℕ → ℕ → ℕ → ℕ → ℕ → Spacing
quartered stride room a b c = record { stride = stride; room = room; second = a; third = a + b; fourth = a + b + c }

-- What a walk over records leaves in the places that it was lent: those that it needed are noted, the others stay.
pub record Noted (s : List ℕ) (from count stride : ℕ) (old new : List ℕ) (r : (Option ℕ)) : Type 0 where
  pub is : r ≡ passed count s from Some None
  pub sized : length new ≡ length old
  pub right : (x : ℕ) → r ≡ Some x → RightRun s from count stride (length old) 0 new
  pub rest : (k : ℕ) → count ≤ k * stride → get_or new k 0 ≡ get_or old k 0

-- What a check that notes places says: the check's answer, and a spacing by which they are right.
pub record NotedFor (which : StreamKind) (s old new : List ℕ) (r : NotedCheck) : Type 0 where
  pub is : r.check ≡ checked which s
  pub sized : length new ≡ length old
  pub right : (t : Stream) → r.check ≡ Ok t → RightFor r.spacing new s t
