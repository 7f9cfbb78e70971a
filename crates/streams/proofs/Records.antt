-- Laws of the walk to a record that reads no more than four bytes inside the stream ahead: a place past the end is as good as missed. Assumes nothing.
use Rattle.std.specs.Prelude.{Some, None, Result, Ok, Err}
use Prim.Native.Nat.{ℕ, zero, suc, ◌+◌, ◌-◌, ◌≤◌, ◌<◌}
use native.Mathlib.Numerals.{add-one}
use native.Mathlib.Omega.{arith}
use mathlib.Core.Path.{◌≡◌, refl, sym, ◌∙◌}
use mathlib.Core.Bool.{Bool, true, false}
use mathlib.Core.List.{List}
use lib.ListN.{length, take}
use lib.Dec.{leb, ltb}
use borrow.Author.Tests.{leb-true, leb-false, le-leb, lt-leb, lt-ltb, le-ltb}
use Rattle.wire.specs.Field.{pick, number, field}
use Rattle.streams.specs.Stream.{behind, passed, stands, record_at, record_behind, number_from, walk_from, look_from}
use Rattle.streams.specs.Places.{mark_by, nearest}
use Rattle.streams.specs.declared.stream.Stream.{Stream}
use Rattle.streams.specs.declared.stream.Cursor.{Cursor}
use Rattle.streams.specs.declared.stream.RecordAt.{RecordAt}
use Rattle.streams.specs.declared.stream.Absent.{Absent}
use Rattle.streams.specs.declared.stream.Absent.TheVariants as absent
use Rattle.streams.specs.declared.places.Spacing.{Spacing}
use Rattle.streams.specs.declared.places.Mark.{Mark}
use Rattle.streams.proofs.Walk.{behind-at, behind-beyond, behind-within, passed_none, passed-more}
use Rattle.streams.proofs.Marks.{mark-before}

-- A record ends where its length says.
pub behind_ends : (s : List ℕ) (at len : ℕ) → len ≡ number 2 s at → 2 ≤ len → at + (2 + len) ≤ length s → behind s at Some None ≡ Some (at + (2 + len))
unfolding behind field
behind_ends s at len e h i = let j : at + 2 + len ≡ at + (2 + len) = omega arith in grind (arith, j)

-- The record at a place, by the place behind it.
module _ {A : Type 0} (s : List ℕ) (at : ℕ) (f : ℕ → ℕ → ℕ → A) (m : A) where
  pub record_found : (next kind : ℕ) → behind s at Some None ≡ Some next → kind ≡ number 2 s (at + 2) → record_at s at f m ≡ f kind (at + 4) next
  unfolding record_at field
  record_found next kind e h =
      let w = behind-within s at refl next e in
      rw (behind-at s at refl next e, le-leb (at + 2 + 2) (length s) (omega arith), h)

  pub record_missed : behind s at Some None ≡ None → record_at s at f m ≡ m
  unfolding record_at
  record_missed e = behind-beyond s at refl e _ m

-- Where fewer than four bytes stand there is no record.
out : {A : Type 0} (s : List ℕ) (at : ℕ) (k : ℕ → A) (z : A) → length s < at + 4 → behind s at k z ≡ z
unfolding behind field
out s at k z h = grind arith

-- Nor where a length is less than two.
pub behind-short : {A : Type 0} (s : List ℕ) (at : ℕ) (k : ℕ → A) (z : A) → number 2 s at < 2 → behind s at k z ≡ z
unfolding behind field
behind-short s at k z h = rw (lt-leb 2 (number 2 s at) h) (go (leb (at + 2) (length s)))
  where
    go : (a : Bool) → pick a z z ≡ z
    go true = refl
    go false = refl

record_out : {A : Type 0} (s : List ℕ) (at : ℕ) → length s < at + 4 → (f : ℕ → ℕ → ℕ → A) (m : A) → record_at s at f m ≡ m
unfolding record_at
record_out s at h f m = out s at _ m h

passed_out : {A : Type 0} (n : ℕ) (s : List ℕ) (at : ℕ) → length s < at + 4 → (k : ℕ → A) (z : A) → k at ≡ z → passed n s at k z ≡ z
unfolding passed
passed_out zero s at h k z e = e
passed_out (suc n) s at h k z e = out s at _ z h

-- The record behind so many others: where fewer than four bytes stand there is none, nor where a length is less than two, and else it stands one fewer
-- behind the next place, even if that is past the end.
module _ (n : ℕ) (s : List ℕ) (at : ℕ) where
  pub behind_out : length s < at + 4 → record_behind n s at ≡ Err absent.Missing
  unfolding record_behind
  behind_out h = passed_out n s at h (λ at. record_at s at stands (Err absent.Missing)) (Err absent.Missing) (record_out s at h stands (Err absent.Missing))

  pub behind_few : 0 < n → number 2 s at < 2 → record_behind n s at ≡ Err absent.Missing
  unfolding record_behind behind field
  behind_few h i = rw (passed-more n s at (λ at. record_at s at stands (Err absent.Missing)) (Err absent.Missing) h) (grind arith)

  pub behind_none : n ≤ 0 → record_behind n s at ≡ record_at s at stands (Err absent.Missing)
  unfolding record_behind
  behind_none h = sym (passed_none n s at _ (Err absent.Missing) h)

step : (m : ℕ) (s : List ℕ) (at : ℕ) → at + 4 ≤ length s → 2 ≤ number 2 s at → record_behind (suc m) s at ≡ record_behind m s (at + 2 + number 2 s at)
unfolding record_behind passed behind field
step m s at h i = let out = behind_out m s (at + 2 + number 2 s at) in grind (arith, out)

pub behind_next : (n m : ℕ) (s : List ℕ) (at next : ℕ) → m + 1 ≡ n → at + 4 ≤ length s → 2 ≤ number 2 s at → next ≡ at + (2 + number 2 s at) → record_behind n s at ≡ record_behind m s next
behind_next n m s at next e h i j =
    let k : next ≡ at + 2 + number 2 s at = omega arith in
    rw (← e, add-one, k) (step m s at h i)

-- What an index stands for: nothing where it has no number, and else what its mark leads to.
module _ (s : List ℕ) (t : Stream) (l : Spacing) (ps : List ℕ) (i : ℕ) where
  abbrev looked : Result RecordAt Absent
  looked = look_from s t (nearest l ps t i) i stands (Err absent.Missing) (Err absent.CrossModule)

  pub look_err : (e : Absent) → number_from t.first t.end i ≡ Err e → looked ≡ Err e
  unfolding look_from walk_from nearest number_from
  look_err e h = grind arith

  pub look_ok : (n : ℕ) → number_from t.first t.end i ≡ Ok n → looked ≡ record_behind (n - (mark_by l ps n).number) (take t.stop s) (mark_by l ps n).place
  unfolding look_from walk_from nearest number_from record_behind
  look_ok n h = let b = mark-before l ps n in grind (arith, b)
