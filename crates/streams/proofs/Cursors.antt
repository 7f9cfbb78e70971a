-- Laws of the walk from record to record: what a cursor says of its index, and that a walk goes on from it. Assumes nothing.
use Rattle.std.specs.Prelude.{Option, Some, None, Result, Ok, Err, IfOk}
use Rattle.std.proofs.lemmas.Result.{IfOk-at_ok}
use Prim.Native.Nat.{ℕ, ◌+◌, ◌-◌, ◌≤◌, ◌<◌}
use native.Mathlib.Omega.{arith}
use mathlib.Core.Path.{◌≡◌, refl, sym, ◌∙◌, ap}
use mathlib.Core.List.{List}
use lib.ListN.{take}
use borrow.Author.Tests.{lt-leb, le-ltb}
use Rattle.streams.specs.Stream.{passed, record_at, walk_from, look_from}
use Rattle.streams.specs.declared.stream.Stream.{Stream}
use Rattle.streams.specs.declared.stream.Cursor.{Cursor}
use Rattle.streams.proofs.Walk.{map-walk, walk-all, passed-at, passed-beyond, passed_on}
use Rattle.streams.specs.declared.stream.Absent.{Absent}
use Rattle.streams.specs.declared.stream.Absent.TheVariants as absent

-- What follows, said of the answer.
abbrev pub by_cursor : {A : Type 0} → (Result Cursor Absent) → (Cursor → A) → A → A → A
by_cursor (Ok c) k m x = k c
by_cursor (Err absent.Missing) k m x = m
by_cursor (Err absent.CrossModule) k m x = x

-- Where a walk comes to, and that there is no record.
abbrev pub cursor_from : List ℕ → Stream → Cursor → ℕ → (Result Cursor Absent)
cursor_from s t from i = walk_from s t from i Ok (Err absent.Missing) (Err absent.CrossModule)

abbrev pub Gone : (Result Cursor Absent) → Type 0
Gone r = (c : Cursor) → r ≡ Ok c → ⊥

-- A cursor is of its index, which is in the stream.
pub record Standing (t : Stream) (from : Cursor) (i : ℕ) (c : Cursor) : Type 0 where
  pub index_is : c.index ≡ i
  pub onward : from.index ≤ i
  pub inside : i < t.end
  pub low : i < 0x8000_0000

module _ (s : List ℕ) (t : Stream) (from : Cursor) (i : ℕ) where
  -- A walk to an index of the stream is one over so many records.
  inside : {A : Type 0} (k : Cursor → A) (m x : A) → from.index ≤ i → i < t.end → i < 0x8000_0000
      → walk_from s t from i k m x ≡ passed (i - from.index) (take t.stop s) from.at (λ at. k (record { index = i; at = at })) m
  unfolding walk_from
  inside k m x f g h = rw (lt-leb 0x8000_0000 i h, le-ltb i from.index f, lt-leb t.end i g)

  module _ {r : (Result Cursor Absent)} (e : r ≡ cursor_from s t from i) where
    pub walk-by : {v : (Result Cursor Absent)} → r ≡ v → {A : Type 0} (k : Cursor → A) (m x : A) → walk_from s t from i k m x ≡ by_cursor v k m x
    walk-by h k m x = sym (map-walk (λ (r : (Result Cursor Absent)). by_cursor r k m x) s t from i Ok (Err absent.Missing) (Err absent.CrossModule)) ∙ ap (λ (r : (Result Cursor Absent)). by_cursor r k m x) (sym e ∙ h)

    pub stands : {c : Cursor} → r ≡ Ok c → Standing t from i c
    stands {c} h =
        IfOk-at_ok (Standing t from i) (sym e ∙ h)
        (walk-all (λ (r : Result Cursor Absent). IfOk r (Standing t from i)) s t from i Ok (Err absent.Missing) (Err absent.CrossModule)
        (λ at a b d. record { index_is = refl; onward = a; inside = b; low = d }) tt tt)

    -- A walk goes on from where it came to.
    pub walk-on : {c : Cursor} → r ≡ Ok c → (j : ℕ) → i ≤ j → {A : Type 0} (k : Cursor → A) (m x : A) → walk_from s t c j k m x ≡ walk_from s t from j k m x
    unfolding walk_from
    walk-on {c} h j l k m x =
        let w = stands h in
        let a = w.index_is in
        let b = w.onward in
        let z : j - from.index ≡ (i - from.index) + (j - c.index) = omega arith in
        rw (le-ltb j c.index (omega arith), le-ltb j from.index (omega arith), z, passed_on (i - from.index) (j - c.index) (take t.stop s) from.at (λ at. k (record { index = j; at = at })) m, ← inside (λ d. passed (j - c.index) (take t.stop s) d.at (λ at. k (record { index = j; at = at })) m) m m b w.inside w.low, walk-by h (λ d. passed (j - c.index) (take t.stop s) d.at (λ at. k (record { index = j; at = at })) m) m m)

-- Behind an index with no record there is none.
module _ (s : List ℕ) (t : Stream) (from : Cursor) (i : ℕ) where
  pub gone-on : from.index ≤ i → Gone (cursor_from s t from i) → Gone (cursor_from s t from (i + 1))
  gone-on l g c e = go (passed (i - from.index) (take t.stop s) from.at Some None) refl
    where
      w : Standing t from (i + 1) c
      w = stands s t from (i + 1) refl e

      go : (p : (Option ℕ)) → p ≡ passed (i - from.index) (take t.stop s) from.at Some None → ⊥
      go (Some x) q =
          let a = w.inside in
          let b = w.low in
          g (record { index = i; at = x })
          (inside s t from i Ok (Err absent.Missing) (Err absent.CrossModule) l (omega arith) (omega arith) ∙ passed-at (i - from.index) (take t.stop s) from.at q x refl (λ at. Ok (record { index = i; at = at })) (Err absent.Missing))
      go None q =
          let a = w.onward in
          let z : i + 1 - from.index ≡ (i - from.index) + 1 = omega arith in
          let y : cursor_from s t from (i + 1) ≡ (Err absent.Missing) =
          inside s t from (i + 1) Ok (Err absent.Missing) (Err absent.CrossModule) a w.inside w.low
          ∙ rw (z, passed_on {A = Result Cursor Absent} (i - from.index) 1 (take t.stop s) from.at (λ at. Ok (record { index = i + 1; at = at })) (Err absent.Missing)) (passed-beyond (i - from.index) (take t.stop s) from.at q refl (λ at. passed 1 (take t.stop s) at (λ at. Ok (record { index = i + 1; at = at })) (Err absent.Missing)) (Err absent.Missing)) in
          let v : ◌≡◌ {A = ℕ} 0 1 = cc in
          omega arith

-- What a cursor says of the look-up of its index.
pub look-cursor : (s : List ℕ) (t : Stream) (from : Cursor) (i : ℕ) {r v : (Result Cursor Absent)} → r ≡ cursor_from s t from i → r ≡ v → {A : Type 0} (k : ℕ → ℕ → ℕ → A) (m x : A) → look_from s t from i k m x ≡ by_cursor v (λ c. record_at (take t.stop s) c.at k m) m x
unfolding look_from
look-cursor s t from i e h k m x = walk-by s t from i e h (λ c. record_at (take t.stop s) c.at k m) m x
