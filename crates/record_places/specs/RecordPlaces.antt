-- Record places kept beside the stream (document 02, Note 3): what they are, the pass that fills them, and the check of lent ones.
use Rattle.std.specs.Prelude.{ℕ, zero, suc, ◌+◌, ◌-◌, ◌*◌, ◌/◌, List, [], ◌∷◌, ◌++◌, length, take, drop, get_or, replicate, leb, eqb, Result, Ok, Err}
use Rattle.wire.specs.Field.{pick}
use Rattle.streams.specs.Stream.{passed, record_at, checked}
use Rattle.streams.specs.declared.refusal.StreamKind.TheVariants.{Types}
use Rattle.streams.specs.declared.refusal.Refusal.{Refusal}
use Rattle.streams.specs.declared.refusal.Refusal.TheVariants.{WrongPlace}
use Rattle.streams.specs.declared.stream.Stream.{Stream}

-- The place of a record by its number: from the first byte of the stream to its length field.
unfoldable pub record_place : List ℕ → ℕ → ℕ
record_place s n = passed n s 56 (λ at. at) 0

-- So many entries, from the k-th on: "the places, from the stream's start, of type records 0, 64, 128 and on".
unfoldable pub places_from : ℕ → ℕ → List ℕ → List ℕ
places_from zero k s = []
places_from (suc m) k s = record_place s (k * 64) ∷ places_from m (suc k) s

-- So many records have so many of them.
unfoldable pub entries_for : ℕ → ℕ
entries_for n = (n + 63) / 64

-- The places of a stream whose check is good.
unfoldable pub places_of : Stream → List ℕ → List ℕ
places_of t s = places_from (entries_for (t.end - t.first)) 0 (take t.stop s)

-- Lent places against those of the stream, from entry k on: "an entry lacking or not that of this stream, detail the number of the first from 0". What is
-- lent past those of the stream is "never read".
unfoldable pub compared : List ℕ → List ℕ → ℕ → Result Unit ℕ
compared [] qs k = Ok tt
compared (p ∷ ps) [] k = Err k
compared (p ∷ ps) (q ∷ qs) k = pick (eqb q p) (compared ps qs (suc k)) (Err k)

-- The check of lent places, by the check of the stream: 17 comes "after every 3 and 4".
unfoldable pub places_by : Result Stream Refusal → List ℕ → List ℕ → Result Unit ℕ
places_by (Ok t) s ps = compared (places_of t s) ps 0
places_by (Err f) s ps = Ok tt

abbrev pub lent_places : List ℕ → List ℕ → Result Unit ℕ
lent_places types ps = places_by (checked Types types) types ps

-- What follows from the record behind so many others in what is handed on of a stream from a place: its kind, and where its fields lie in the whole. "With
-- them a look-up is handed the stream only from the last place at or before its record."
unfoldable pub found_from : {A : Type 0} → List ℕ → ℕ → ℕ → (ℕ → ℕ → ℕ → A) → A → A
found_from s place count found missing =
    passed count (drop place s) 0 (λ at. record_at (drop place s) at (λ kind start end. found kind (place + start) (place + end)) missing) missing

-- The last place at or before a record, and how many records are passed from there.
abbrev pub place_before : List ℕ → ℕ → ℕ
place_before ps n = get_or ps (n / 64) 0

abbrev pub passed_between : ℕ → ℕ
passed_between n = n - n / 64 * 64

-- What the pass leaves: the buffer, and how many entries are filled, or a refusal.
pub record Pass : Type 0 where
  pub buf : List ℕ
  pub told : Result ℕ Refusal

abbrev pub leaves : List ℕ → Result ℕ Refusal → Pass
leaves b a = record { buf = b; told = a }

-- "The pass gives 3, 4 and, for a short buffer, 17, and then leaves zeros in it."
abbrev pub refused_pass : List ℕ → Refusal → Pass
refused_pass old f = leaves (replicate (length old) 0) (Err f)

-- "A pass that fills the front of a lent buffer of u32 with the places .. ; entries past these are unchanged."
unfoldable pub filled_by : List ℕ → List ℕ → Pass
filled_by ps old =
    pick (leb (length ps) (length old))
    (leaves (ps ++ drop (length ps) old) (Ok (length ps)))
    (refused_pass old (WrongPlace (length old)))

unfoldable pub pass_by : Result Stream Refusal → List ℕ → List ℕ → Pass
pass_by (Ok t) s old = filled_by (places_of t s) old
pass_by (Err f) s old = refused_pass old f

abbrev pub fill_pass : List ℕ → List ℕ → Pass
fill_pass types old = pass_by (checked Types types) types old
