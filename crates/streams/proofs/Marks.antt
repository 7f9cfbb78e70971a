-- Laws of places: a mark is never behind its record, right marks give the plain look-up, and up to where a mark serves. Assumes nothing.
use Rattle.std.specs.Prelude.{Some, None}
use Prim.Native.Nat.{ℕ, zero, suc, ◌+◌, ◌-◌, ◌*◌, ◌/◌, ◌≤◌, ◌<◌, min}
use native.Mathlib.Nat.{div-lt_iff_lt-mul, div-zero, le-div_iff_mul-le, zero-add, mul-zero, suc-mul, div-mul-le_self, mul-le-mul_right, min-le_left}
use native.Mathlib.Numerals.{add-one}
use native.Mathlib.Omega.{arith}
use mathlib.Core.Path.{◌≡◌, refl, sym, ◌∙◌, ap}
use mathlib.Core.Bool.{Bool, true, false}
use mathlib.Core.List.{List, []}
use lib.ListN.{length, take, get_or}
use lib.Seq.{take-nil}
use lib.Dec.{leb, ltb}
use borrow.Author.Tests.{ltb-true, ltb-false, leb-false, le-ltb, lt-ltb, lt-leb}
use Rattle.wire.specs.Field.{pick, field}
use Rattle.streams.specs.Stream.{behind, passed, record_at, first_record, walk_from, look_from}
use Rattle.streams.specs.Places.{first_mark, entry_in, mark_in, mark_by, nearest, serves_in, serves, serves_until, RightMarks, RightFor, RightPlaces, strided, Parted}
use Rattle.streams.specs.declared.stream.Stream.{Stream}
use Rattle.streams.specs.declared.stream.Cursor.{Cursor}
use Rattle.streams.specs.declared.places.Spacing.{Spacing}
use Rattle.streams.specs.declared.places.Mark.{Mark}
use Rattle.streams.proofs.Walk.{passed-from}

-- An entry's record is at or before the one sought.
pub entry-before : (d stride m : ℕ) → min (d / stride) m * stride ≤ d
entry-before d stride m = omega (arith, mul-le-mul_right stride (min-le_left (d / stride) m), div-mul-le_self d stride)

pub entry_low : (l : Spacing) (base n k : ℕ) → k ≡ entry_in l base n → k * l.stride ≤ n - base
entry_low l base n k e = rw e (entry-before (n - base) l.stride (l.room - 1))

-- The next entry's is at most a stride behind it.
pub entry_next : (l : Spacing) (base n k : ℕ) → k ≡ entry_in l base n + 1 → k * l.stride ≤ n - base + l.stride
entry_next l base n k e = rw (e, add-one (entry_in l base n), suc-mul (entry_in l base n) l.stride) (omega (arith, entry_low l base n (entry_in l base n) refl))

pub mark-in-before : (l : Spacing) (ps : List ℕ) (from base n : ℕ) → base ≤ n → (mark_in l ps from base n).number ≤ n
unfolding mark_in
mark-in-before l ps from base n h = go (ltb (from + entry_in l base n) (length ps))
  where
    go : (b : Bool) → (pick b (record { number = base + entry_in l base n * l.stride; place = get_or ps (from + entry_in l base n) 0 }) first_mark).number ≤ n
    go true = omega (arith, entry-before (n - base) l.stride (l.room - 1))
    go false = omega arith

pub mark-before : (l : Spacing) (ps : List ℕ) (n : ℕ) → (mark_by l ps n).number ≤ n
unfolding mark_by
mark-before l ps n = go (ltb n l.second) (ltb n l.third) (ltb n l.fourth) refl refl refl
  where
    go : (a b c : Bool) → ltb n l.second ≡ a → ltb n l.third ≡ b → ltb n l.fourth ≡ c → (pick a (mark_in l ps 0 0 n) (pick b (mark_in l ps l.room l.second n) (pick c (mark_in l ps (2 * l.room) l.third n) (mark_in l ps (3 * l.room) l.fourth n)))).number ≤ n
    go true b c e f g = mark-in-before l ps 0 0 n (omega arith)
    go false true c e f g = mark-in-before l ps l.room l.second n (ltb-false _ _ e)
    go false false true e f g = mark-in-before l ps (2 * l.room) l.third n (ltb-false _ _ f)
    go false false false e f g = mark-in-before l ps (3 * l.room) l.fourth n (ltb-false _ _ g)

pub mark-low : (l : Spacing) (ps : List ℕ) (n : ℕ) {m : Mark} → m ≡ mark_by l ps n → m.number ≤ n
mark-low l ps n e = rw e (mark-before l ps n)

pub ruleset marked = (mark-before)

-- A start is never behind its index, and is never before the first record.
pub nearest-onward : (l : Spacing) (ps : List ℕ) (t : Stream) (i : ℕ) → t.first ≤ i → (nearest l ps t i).index ≤ i
unfolding nearest
nearest-onward l ps t i h = omega (arith, mark-before l ps (i - t.first))

-- The law: from right marks the walk to an index is the plain one, for every index.
pub walk-right : {A : Type 0} (l : Spacing) (ps s : List ℕ) (t : Stream) → RightFor l ps s t → (i : ℕ) (k : Cursor → A) (m x : A) → walk_from s t (nearest l ps t i) i k m x ≡ walk_from s t (first_record t) i k m x
unfolding walk_from nearest
walk-right {A} l ps s t r i k m x = go (leb 0x8000_0000 i) (ltb i t.first) (leb t.end i) refl refl
  where
    n : ℕ
    n = i - t.first

    number : ℕ
    number = (mark_by l ps n).number

    place : ℕ
    place = (mark_by l ps n).place

    found : ℕ → A
    found at = k (record { index = i; at = at })

    walked : t.first ≤ i → i < t.end → passed (i - (t.first + number)) (take t.stop s) place found m ≡ passed n (take t.stop s) 56 found m
    walked h j =
        let b : number ≤ n = mark-before l ps n in
        let e : number + (i - (t.first + number)) ≡ n = omega arith in
        sym (passed-from number (i - (t.first + number)) (take t.stop s) 56 place (r n (omega arith)) found m)
        ∙ ap (λ (n : ℕ). passed n (take t.stop s) 56 found m) e

    go : (a b c : Bool) → ltb i t.first ≡ b → leb t.end i ≡ c → pick a x (pick (ltb i (t.first + number)) m (pick c m (passed (i - (t.first + number)) (take t.stop s) place found m))) ≡ pick a x (pick b m (pick c m (passed n (take t.stop s) 56 found m)))
    go true b c e f = refl
    go false true c e f = rw (lt-ltb i (t.first + number) (omega (arith, ltb-true i t.first e)))
    go false false true e f = go-past (ltb i (t.first + number))
      where
        go-past : (b : Bool) → pick b m m ≡ m
        go-past true = refl
        go-past false = refl
    go false false false e f =
        let h : t.first ≤ i = ltb-false i t.first e in
        rw (le-ltb i (t.first + number) (omega (arith, mark-before l ps n))) (walked h (leb-false t.end i f))

-- And so is what is looked up.
pub look-right : {A : Type 0} (l : Spacing) (ps s : List ℕ) (t : Stream) → RightFor l ps s t → (i : ℕ) (k : ℕ → ℕ → ℕ → A) (m x : A) → look_from s t (nearest l ps t i) i k m x ≡ look_from s t (first_record t) i k m x
unfolding look_from
look-right l ps s t r i k m x = walk-right l ps s t r i (λ c. record_at (take t.stop s) c.at k m) m x

-- In no bytes nothing is found, from wherever it is sought.
gone : {A : Type 0} (at : ℕ) (f : ℕ → A) (m : A) → behind [] at f m ≡ m
unfolding behind field
gone at f m = rw (lt-leb (at + 2) 0 (omega arith))

pub look-nothing : {A : Type 0} (t : Stream) (from : Cursor) (i : ℕ) (k : ℕ → ℕ → ℕ → A) (m x : A) → look_from [] t from i k m x ≡ pick (leb 0x8000_0000 i) x m
unfolding look_from walk_from passed record_at
look-nothing {A} t from i k m x = go (leb 0x8000_0000 i) (ltb i from.index) (leb t.end i)
  where
    found : ℕ → A
    found at = record_at (take t.stop []) at k m

    none : (n at : ℕ) → passed n (take t.stop []) at found m ≡ m
    none zero at = rw (take-nil t.stop) (gone at _ m)
    none (suc n) at = rw (take-nil t.stop) (gone at _ m)

    go : (a b c : Bool) → pick a x (pick b m (pick c m (passed (i - from.index) (take t.stop []) from.at found m))) ≡ pick a x m
    go true b c = refl
    go false true c = refl
    go false false true = refl
    go false false false = none (i - from.index) from.at

-- In a stream of no records nothing is found either.
pub look_none : {A : Type 0} (s : List ℕ) (t : Stream) → t.end ≤ t.first → (i : ℕ) (k : ℕ → ℕ → ℕ → A) (m x : A) → look_from s t (first_record t) i k m x ≡ pick (leb 0x8000_0000 i) x m
unfolding look_from walk_from
look_none {A} s t h i k m x = go (leb 0x8000_0000 i) (ltb i t.first) (leb t.end i) refl refl
  where
    found : ℕ → A
    found at = record_at (take t.stop s) at k m

    go : (a b c : Bool) → ltb i t.first ≡ b → leb t.end i ≡ c → pick a x (pick b m (pick c m (passed (i - t.first) (take t.stop s) 56 found m))) ≡ pick a x m
    go true b c e f = refl
    go false true c e f = refl
    go false false true e f = refl
    go false false false e f = absurd (omega (arith, h, ltb-false i t.first e, leb-false t.end i f))

-- Places of a whole stream that are right make right marks, whatever number of them is in use.
pub strided-right : (stride room : ℕ) (ps : List ℕ) (count : ℕ) (s : List ℕ) → count ≤ 0xffff_ffff → RightPlaces stride ps count s → RightMarks (strided stride room) ps count s
unfolding mark_by mark_in passed
strided-right stride room ps count s b r n h =
    rw (lt-ltb n 0xffff_ffff (omega arith)) (go (ltb (0 + k) (length ps)) refl)
  where
    k : ℕ
    k = min ((n - 0) / stride) (room - 1)

    go : (b : Bool) → ltb (0 + k) (length ps) ≡ b → passed (pick b (record { number = 0 + k * stride; place = get_or ps (0 + k) 0 }) first_mark).number s 56 Some None ≡ Some (pick b (record { number = 0 + k * stride; place = get_or ps (0 + k) 0 }) first_mark).place
    go true e = rw (zero-add (k * stride)) (r k (omega (arith, ltb-true (0 + k) (length ps) e)) (omega (arith, entry-before (n - 0) stride (room - 1))))
    go false e = refl

-- For a walk that goes on from record to record: up to where an entry serves, the entry is the same.
div-steady : (a b d : ℕ) → a ≤ b → a / d ≤ b / d
div-steady a b zero h = rw (div-zero a, div-zero b) (omega arith)
div-steady a b (suc d) h = (le-div_iff_mul-le {k = suc d} {x = a / suc d} {y = b} (omega arith)).1 (omega (arith, div-mul-le_self a (suc d)))

pub entry-same : (l : Spacing) (base next n m : ℕ) → base ≤ n → n ≤ m → m < serves_in l base next n → entry_in l base m ≡ entry_in l base n
unfolding serves_in
entry-same l base next n m h i j = go (ltb (entry_in l base n + 1) l.room) refl j
  where
    steady : (n - base) / l.stride ≤ (m - base) / l.stride
    steady = div-steady (n - base) (m - base) l.stride (omega arith)

    go : (b : Bool) → ltb (entry_in l base n + 1) l.room ≡ b → m < pick b (min (base + (entry_in l base n + 1) * l.stride) next) next → entry_in l base m ≡ entry_in l base n
    go true e k = few (ltb 0 l.stride) refl
      where
        few : (b : Bool) → ltb 0 l.stride ≡ b → entry_in l base m ≡ entry_in l base n
        few true z =
            let f : (m - base) / l.stride < entry_in l base n + 1 = (div-lt_iff_lt-mul (ltb-true 0 l.stride z)).1 (omega arith) in
            omega (arith, f, steady, ltb-true (entry_in l base n + 1) l.room e)
        few false z =
            let y : l.stride ≡ 0 = omega (arith, ltb-false 0 l.stride z) in
            let w : (entry_in l base n + 1) * l.stride ≡ 0 = ap (λ (d : ℕ). (entry_in l base n + 1) * d) y ∙ mul-zero (entry_in l base n + 1) in
            absurd (omega arith)
    go false e k = omega (arith, steady, ltb-false (entry_in l base n + 1) l.room e)

mark-in-same : (l : Spacing) (ps : List ℕ) (from base next n m : ℕ) → base ≤ n → n ≤ m → m < serves_in l base next n → mark_in l ps from base m ≡ mark_in l ps from base n
unfolding mark_in
mark-in-same l ps from base next n m h i j = rw (entry-same l base next n m h i j)

pub serves-within : (l : Spacing) (base next n : ℕ) → serves_in l base next n ≤ next
unfolding serves_in
serves-within l base next n = go (ltb (entry_in l base n + 1) l.room)
  where
    go : (b : Bool) → pick b (min (base + (entry_in l base n + 1) * l.stride) next) next ≤ next
    go true = omega arith
    go false = omega arith

pub mark-same : (l : Spacing) (ps : List ℕ) (n m : ℕ) → n ≤ m → m < serves l n → mark_by l ps m ≡ mark_by l ps n
unfolding mark_by serves
mark-same l ps n m h j = go (ltb n l.second) (ltb n l.third) (ltb n l.fourth) refl refl refl j
  where
    go : (a b c : Bool) → ltb n l.second ≡ a → ltb n l.third ≡ b → ltb n l.fourth ≡ c
        → m < pick a (serves_in l 0 l.second n) (pick b (serves_in l l.second l.third n) (pick c (serves_in l l.third l.fourth n) (serves_in l l.fourth 0x1_0000_0000 n)))
        → pick (ltb m l.second) (mark_in l ps 0 0 m) (pick (ltb m l.third) (mark_in l ps l.room l.second m) (pick (ltb m l.fourth) (mark_in l ps (2 * l.room) l.third m) (mark_in l ps (3 * l.room) l.fourth m)))
        ≡ pick a (mark_in l ps 0 0 n) (pick b (mark_in l ps l.room l.second n) (pick c (mark_in l ps (2 * l.room) l.third n) (mark_in l ps (3 * l.room) l.fourth n)))
    go true b c e f g k =
        rw (lt-ltb m l.second (omega (arith, serves-within l 0 l.second n))) (mark-in-same l ps 0 0 l.second n m (omega arith) h k)
    go false true c e f g k =
        let x : l.second ≤ n = ltb-false n l.second e in
        rw (le-ltb m l.second (omega arith), lt-ltb m l.third (omega (arith, serves-within l l.second l.third n)))
        (mark-in-same l ps l.room l.second l.third n m x h k)
    go false false true e f g k =
        let x : l.second ≤ n = ltb-false n l.second e in
        let y : l.third ≤ n = ltb-false n l.third f in
        rw (le-ltb m l.second (omega arith), le-ltb m l.third (omega arith), lt-ltb m l.fourth (omega (arith, serves-within l l.third l.fourth n)))
        (mark-in-same l ps (2 * l.room) l.third l.fourth n m y h k)
    go false false false e f g k =
        let x : l.second ≤ n = ltb-false n l.second e in
        let y : l.third ≤ n = ltb-false n l.third f in
        let z : l.fourth ≤ n = ltb-false n l.fourth g in
        rw (le-ltb m l.second (omega arith), le-ltb m l.third (omega arith), le-ltb m l.fourth (omega arith))
        (mark-in-same l ps (3 * l.room) l.fourth 0x1_0000_0000 n m z h k)

-- So the walks to indexes up to where a start serves have the same start.
pub nearest-same : (l : Spacing) (ps : List ℕ) (t : Stream) (i j : ℕ) → t.first ≤ i → i ≤ j → j < serves_until l t i → nearest l ps t j ≡ nearest l ps t i
unfolding nearest serves_until
nearest-same l ps t i j f h k = rw (mark-same l ps (i - t.first) (j - t.first) (omega arith) (omega arith))
