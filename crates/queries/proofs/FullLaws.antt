-- Laws of the scan for a full record: bytes that are the same, the indexes that are passed over, and one record more. Assumes nothing.
use Rattle.std.specs.Prelude.{Option, Some, None, unwrap_or, Result, Ok, Err}
use Prim.Native.Nat.{ℕ, zero, suc, ◌+◌, ◌-◌, ◌≤◌, ◌<◌, min, max}
use native.Mathlib.Decide.{dec_lt}
use native.Mathlib.Omega.{arith}
use borrow.Author.Rules.{rules}
use borrow.Author.Tests.{le-ltb}
use mathlib.Core.Path.{◌≡◌, refl, sym, ◌∙◌, ap}
use mathlib.Core.Bool.{Bool, ◌&&◌}
use mathlib.Core.List.{List, [], ◌∷◌}
use lib.Dec.{eqb}
use lib.Pointwise.{pointwise}
use Rattle.streams.specs.Stream.{walk_from, look_from}
use Rattle.streams.specs.Places.{nearest, serves_until}
use Rattle.streams.specs.Bounds.{stream_in, spacing_in, places_in}
use Rattle.streams.specs.declared.refusal.StreamKind.TheVariants.{Types}
use Rattle.streams.specs.declared.stream.Stream.{Stream}
use Rattle.streams.specs.declared.stream.Cursor.{Cursor}
use Rattle.streams.specs.declared.stream.Absent.{Absent}
use Rattle.streams.specs.declared.stream.Absent.TheVariants as absent
use Rattle.streams.specs.declared.places.Spacing.{Spacing}
use Rattle.streams.specs.declared.refusal.Refusal.{Refusal}
use Rattle.streams.proofs.Cursors.{cursor_from, Gone, Standing, stands, walk-on, gone-on, look-cursor}
use Rattle.streams.proofs.Marks.{nearest-same}
use Rattle.codeview.specs.Read.{primitive_of, type_from, type_in}
use Rattle.codeview.specs.declared.record.TypeData.{TypeData}
use Rattle.codeview.proofs.Laws.{by_listed}
use Rattle.rules.specs.Flags.{Settings}
use Rattle.rules.specs.Record.{type_contents, type_as_read}
use Rattle.rules.specs.Places.{table_by, Near, beside, table_in}
use Rattle.rules.specs.Text.{same_bytes}
use Rattle.rules.specs.Sizes.{full_or, full_size}
use Rattle.queries.specs.Sizes.{FullOf, FullFrom, FullSize, full_run, FullBetween}

-- Bytes that the code finds equal are the same.
pub equal_bytes : (a b : List ℕ) → pointwise eqb a b ≡ same_bytes a b
unfolding same_bytes
equal_bytes [] [] = refl
equal_bytes [] (y ∷ b) = refl
equal_bytes (x ∷ a) [] = refl
equal_bytes (x ∷ a) (y ∷ b) = ap (λ (e : Bool). eqb x y && e) (equal_bytes a b)

-- The indexes that are passed over: those of primitives, those that are refused, and those with no record.
module _ (s : List ℕ) (name : List ℕ) where
  primitive-passes : (i o : ℕ) → full_or (type_as_read s (primitive_of i)) name o ≡ o
  unfolding full_or type_as_read type_contents
  primitive-passes i o = rw (by_listed i) (search rules)

module _ (s : List ℕ) (t : Stream) (from : Cursor) (name : List ℕ) where
  abbrev Passes : ℕ → Type 0
  Passes i = (o : ℕ) → full_or (type_as_read s (type_from s t from i)) name o ≡ o

  below-passes : (i : ℕ) → (0x1000 ≤ i → i < from.index) → Passes i
  unfolding type_from look_from walk_from full_or type_as_read
  below-passes i h o = search (primitive-passes s name i o, rules)

  gone-passes : (i : ℕ) → 0x1000 ≤ i → Gone (cursor_from s t from i) → Passes i
  unfolding type_from full_or type_as_read
  gone-passes i g h o = go (cursor_from s t from i) refl
    where
      go : (r : Result Cursor Absent) → cursor_from s t from i ≡ r → full_or (type_as_read s (type_from s t from i)) name o ≡ o
      go (Ok c) e = absurd (h c e)
      go (Err absent.Missing) e = rw (le-ltb i 0x1000 g, look-cursor s t from i refl e _ _ _)
      go (Err absent.CrossModule) e = rw (le-ltb i 0x1000 g, look-cursor s t from i refl e _ _ _)

  -- A record is read where its cursor is.
  read-in : (i : ℕ) (c : Cursor) → 0x1000 ≤ i → cursor_from s t from i ≡ Ok c → type_in s t c.at i ≡ type_from s t from i
  unfolding type_from type_in
  read-in i c g e = rw (le-ltb i 0x1000 g) (sym (look-cursor s t from i refl e _ _ _))

  -- What so many records from an index on say.
  abbrev run : ℕ → ℕ → ℕ → ℕ
  run n i o = full_run s t from n i name o

  run_more : (n i o : ℕ) → run (suc n) i o ≡ full_or (type_as_read s (type_from s t from i)) name (run n (i + 1) o)
  unfolding full_run
  run_more n i o = refl

  run_none : (n i o : ℕ) → n ≡ 0 → o ≡ run n i o
  unfolding full_run
  run_none n i o e = rw e

  run_of : (stop i o : ℕ) → i < stop → run (stop - i) i o ≡ full_or (type_as_read s (type_from s t from i)) name (run (stop - (i + 1)) (i + 1) o)
  run_of stop i o h =
      let e : stop - i ≡ suc (stop - (i + 1)) = omega arith in
      rw e (run_more (stop - (i + 1)) i o)

  -- Behind an index with no record none decides.
  all-gone : (n i o : ℕ) → 0x1000 ≤ i → from.index ≤ i → Gone (cursor_from s t from i) → o ≡ run n i o
  all-gone zero i o l h g = run_none 0 i o refl
  all-gone (suc n) i o l h g =
      all-gone n (i + 1) o (omega arith) (omega arith) (gone-on s t from i h g)
      ∙ sym (run_more n i o ∙ gone-passes i l g (run n (i + 1) o))

-- Where a scan from one start is: what the records from its index on say is what those from the first on say.
pub record Scanning (types : List ℕ) (t : Stream) (from : Cursor) (stop : ℕ) (name : List ℕ) (first : ℕ) (r : Result Cursor Absent) : Type 0 where
  pub i : ℕ
  pub typed : 0x1000 ≤ i
  pub inside : from.index ≤ i
  pub read : r ≡ cursor_from types t from i
  pub holds : (o : ℕ) → full_run types t from (stop - i) i name o ≡ full_run types t from (stop - first) first name o

-- How many indexes are left to a cursor.
unfoldable pub left_of : Stream → Result Cursor Absent → ℕ
left_of t (Ok c) = t.end - c.index
left_of t (Err e) = 0

-- The steps of the scan.
module _ (types : List ℕ) (t : Stream) (from : Cursor) (stop : ℕ) (name : List ℕ) (first : ℕ) where
  pub scan-first : 0x1000 ≤ first → from.index ≤ first → {r : Result Cursor Absent} → r ≡ cursor_from types t from first → Scanning types t from stop name first r
  scan-first a b e = record { i = first; typed = a; inside = b; read = e; holds = λ o. refl }

  module _ {r : Result Cursor Absent} (w : Scanning types t from stop name first r) where
    pub scan-over : Gone r → FullBetween types t from first stop name None
    scan-over g = record { is = λ o. all-gone types t from name (stop - w.i) w.i o w.typed w.inside (λ d e. g d (w.read ∙ e)) ∙ w.holds o }

    module _ {c : Cursor} (k : r ≡ Ok c) where
      at : Standing t from w.i c
      at = stands types t from w.i w.read k

      pub scan-past : stop ≤ c.index → FullBetween types t from first stop name None
      scan-past h = record { is = λ o. run_none types t from name (stop - w.i) w.i o (omega (arith, at.index_is)) ∙ w.holds o }

      pub scan-less : {r₁ : Result Cursor Absent} → r₁ ≡ cursor_from types t c (c.index + 1) → left_of t r₁ < left_of t r
      unfolding left_of
      scan-less {r₁} b = rw k (go r₁ b)
        where
          go : (r : Result Cursor Absent) → r ≡ cursor_from types t c (c.index + 1) → left_of t r < t.end - c.index
          go (Ok d) b = let x = stands types t c (c.index + 1) b refl in let y = at in omega (arith, x.index_is, x.inside)
          go (Err e) b = let y = at in omega (arith, y.index_is, y.inside)

      module _ (h : c.index < stop) {x : Result TypeData Refusal} (e : x ≡ type_in types t c.at c.index) {q : Option ℕ} (f : FullOf types x name q) where
        abbrev later : ℕ → ℕ
        later o = full_run types t from (stop - (w.i + 1)) (w.i + 1) name o

        here : (o : ℕ) → unwrap_or q (later o) ≡ full_run types t from (stop - w.i) w.i name o
        here o =
            let z : x ≡ type_from types t from w.i = e ∙ ap (λ (n : ℕ). type_in types t c.at n) at.index_is ∙ read-in types t from name w.i c w.typed (sym w.read ∙ k) in
            let y : full_or (type_as_read types x) name (later o) ≡ full_run types t from (stop - w.i) w.i name o = rw z (sym (run_of types t from name stop w.i o (omega (arith, at.index_is)))) in
            f.is (later o) ∙ y

        pub scan-full : (v : ℕ) → q ≡ Some v → FullBetween types t from first stop name (Some v)
        scan-full v z = record { is = λ o. let y : unwrap_or q (later o) ≡ v = rw z in sym y ∙ here o ∙ w.holds o }

        pub scan-next : q ≡ None → {r₁ : Result Cursor Absent} → r₁ ≡ cursor_from types t c (c.index + 1) → Scanning types t from stop name first r₁
        scan-next z b =
            record {
              i = w.i + 1;
              typed = let h = w.typed in omega arith;
              inside = let h = w.inside in omega arith;
              read = b ∙ walk-on types t from w.i w.read k (c.index + 1) (omega (arith, at.index_is)) Ok (Err absent.Missing) (Err absent.CrossModule) ∙ ap (λ (n : ℕ). cursor_from types t from (n + 1)) at.index_is;
              holds = λ o. let y : unwrap_or q (later o) ≡ later o = rw z in sym y ∙ here o ∙ w.holds o;
            }

-- Where a scan from place to place is: what holds from its index on holds from the reference on.
pub record Ranging (types : List ℕ) (v : Near) (name : List ℕ) (own : ℕ) (t : Stream) (index at : ℕ) : Type 0 where
  pub typed : 0x1000 ≤ at
  pub inside : t.first ≤ at
  pub holds : (r : ℕ) → FullFrom types v at name own r → FullSize types v index name own r

-- A scan from place to place, over the stream and the spacing that the numbers tell of.
module _ (types : List ℕ) (v : Near) (name : List ℕ) (own : ℕ) {t : Stream} (k : t ≡ stream_in v.bounds Types) {l : Spacing} (g : l ≡ spacing_in v.bounds Types) where
  abbrev from : ℕ → Cursor
  from i = nearest l v.places t i

  -- No start is before the first record.
  before-first : (i : ℕ) → i < t.first → i < (from i).index
  unfolding nearest
  before-first i h = omega arith

  -- The size by the records from an index on, each found from the nearest place.
  module _ (c : Settings) (ids : List ℕ) where
    abbrev size : ℕ → ℕ → ℕ
    size n i = full_size c (table_in types (beside ids v)) n i name own

    none_left : (n i : ℕ) → n ≡ 0 → own ≡ size n i
    unfolding full_size
    none_left n i e = rw e

    one_more : (n i : ℕ) → size (suc n) i ≡ full_or (type_as_read types (type_from types t (from i) i)) name (size n (i + 1))
    unfolding full_size table_in table_by places_in
    one_more n i = rw (k, g)

    -- The indexes before the first record are passed over.
    skip : (n i start : ℕ) → i + n ≡ t.end → i ≤ start → ((k : ℕ) → i ≤ k → k < start → 0x1000 ≤ k → k < t.first) → size (t.end - start) start ≡ size n i
    skip zero i start e h p = let z : t.end - start ≡ 0 = omega arith in sym (none_left (t.end - start) start z) ∙ none_left 0 i refl
    skip (suc n) i start e h p = by (dec_lt i start) (λ d. skip n (i + 1) start (omega arith) (omega arith) (λ j a b. p j (omega arith) b))
      where
        by : Dec (i < start) → (i < start → size (t.end - start) start ≡ size n (i + 1)) → size (t.end - start) start ≡ size (suc n) i
        by (yes d) f = f d ∙ sym (one_more n i ∙ below-passes types t (from i) name i (λ a. before-first i (p i (omega arith) d a)) (size n (i + 1)))
        by (no d) f = let z : start ≡ i = omega arith in let y : t.end - i ≡ suc n = omega arith in rw (z, y)

    -- Those up to where a start serves are the run from it.
    stretch : (at stop : ℕ) → ((j : ℕ) → at ≤ j → j < stop → from j ≡ from at) → stop ≤ t.end → (n i : ℕ) → i + n ≡ stop → at ≤ i
        → size (t.end - i) i ≡ full_run types t (from at) n i name (size (t.end - stop) stop)
    stretch at stop same low zero i e h = let z : i ≡ stop = omega arith in rw z (run_none types t (from at) name 0 stop (size (t.end - stop) stop) refl)
    stretch at stop same low (suc n) i e h =
        let y : t.end - i ≡ suc (t.end - (i + 1)) = omega arith in
        rw y (one_more (t.end - (i + 1)) i)
        ∙ ap (λ (d : Cursor). full_or (type_as_read types (type_from types t d i)) name (size (t.end - (i + 1)) (i + 1))) (same i h (omega arith))
        ∙ ap (λ (o : ℕ). full_or (type_as_read types (type_from types t (from at) i)) name o) (stretch at stop same low n (i + 1) (omega arith) (omega arith))
        ∙ sym (run_more types t (from at) name n i (size (t.end - stop) stop))

  full_by : (i r : ℕ) → ((c : Settings) (ids : List ℕ) → r ≡ size c ids (t.end - i) i) → FullFrom types v i name own r
  full_by i r h = record { is = λ c ids. rw k at (h c ids) }

  pub range-none : (index : ℕ) → t.end ≤ index → FullSize types v index name own own
  range-none index h = full_by (index + 1) own (λ c ids. none_left c ids (t.end - (index + 1)) (index + 1) (omega arith))

  -- It starts at the first index after the reference that can be a record's.
  pub range-first : (index : ℕ) → index < t.end → {m start : ℕ} → m ≡ max (index + 1) 0x1000 → start ≡ max m t.first → Ranging types v name own t index start
  range-first index h {m} {start} d e =
      record {
        typed = omega arith;
        inside = omega arith;
        holds = λ r f. full_by (index + 1) r (λ c ids. (rw (← k) at (f.is c ids)) ∙ skip c ids (t.end - (index + 1)) (index + 1) start (omega arith) (omega arith) (λ k a b l. omega arith));
      }

  module _ {index at : ℕ} (w : Ranging types v name own t index at) where
    pub range-over : t.end ≤ at → FullSize types v index name own own
    range-over h = w.holds own (full_by at own (λ c ids. none_left c ids (t.end - at) at (omega arith)))

    module _ (h : at < t.end) {stop : ℕ} (e : stop ≡ min (max (serves_until l t at) (at + 1)) t.end) {start : Cursor} (s : start ≡ from at) {q : Option ℕ} (f : FullBetween types t start at stop name q) where
      same : (j : ℕ) → at ≤ j → j < stop → from j ≡ from at
      same j a b = go (dec_lt j (serves_until l t at))
        where
          go : Dec (j < serves_until l t at) → from j ≡ from at
          go (yes d) = nearest-same l v.places t at j w.inside a d
          go (no d) = let z : j ≡ at = omega arith in ap from z

      on : (c : Settings) (ids : List ℕ) → unwrap_or q (size c ids (t.end - stop) stop) ≡ size c ids (t.end - at) at
      on c ids =
          f.is (size c ids (t.end - stop) stop)
          ∙ ap (λ (d : Cursor). full_run types t d (stop - at) at name (size c ids (t.end - stop) stop)) s
          ∙ sym (stretch c ids at stop same (omega arith) (stop - at) at (omega arith) (omega arith))

      pub range-full : (x : ℕ) → q ≡ Some x → FullSize types v index name own x
      range-full x z = w.holds x (full_by at x (λ c ids. let y : unwrap_or q (size c ids (t.end - stop) stop) ≡ x = rw z in sym y ∙ on c ids))

      pub range-next : q ≡ None → Ranging types v name own t index stop
      range-next z =
          record {
            typed = let g = w.typed in omega arith;
            inside = let g = w.inside in omega arith;
            holds = λ r g. w.holds r (full_by at r (λ c ids. let y : unwrap_or q (size c ids (t.end - stop) stop) ≡ size c ids (t.end - stop) stop = rw z in (rw (← k) at (g.is c ids)) ∙ sym y ∙ on c ids));
          }
