-- With lent places that are those of the stream a look-up is handed the stream only from the last place at or before its record, and passes over at most 63
-- records; entries past those of the stream are never read. Assumes nothing.
use Rattle.std.specs.Prelude.{Ok}
use Prim.Native.Nat.{ℕ, ◌+◌, ◌-◌, ◌*◌, ◌/◌, ◌≤◌, ◌<◌}
use native.Mathlib.Nat.{add-zero}
use native.Mathlib.Omega.{arith}
use mathlib.Core.Path.{◌≡◌, refl, sym, ◌∙◌, ap}
use mathlib.Core.List.{List}
use lib.ListN.{length, take}
use borrow.Author.Tests.{lt-leb, le-ltb}
use Rattle.streams.specs.Stream.{passed, record_at, walk_from, look_from, look_up, checked}
use Rattle.streams.specs.declared.refusal.StreamKind.TheVariants.{Types}
use Rattle.streams.specs.declared.stream.Stream.{Stream}
use Rattle.streams.proofs.Walk.{passed-from}
use Rattle.streams.proofs.Handed.{passed-moved, record-moved}
use Rattle.record_places.specs.RecordPlaces.{places_of, places_by, lent_places, found_from, place_before, passed_between}
use Rattle.record_places.proofs.Laws.{compared-front}
use Rattle.record_places.proofs.Pass.{good-types, lent-entry}

pub few-passed : (n : ℕ) → passed_between n ≤ 63
few-passed n = omega arith

module _ {A : Type 0} (s ps : List ℕ) (t : Stream) (g : checked Types s ≡ Ok t) (h : lent_places s ps ≡ Ok tt) (i : ℕ) (k : ℕ → ℕ → ℕ → A) (m x : A) (low : t.first ≤ i) (high : i < t.end) where
  abbrev n : ℕ
  n = i - t.first

  abbrev records : List ℕ
  records = take t.stop s

  abbrev found : ℕ → A
  found at = record_at records at k m

  walked : look_up s t i k m x ≡ passed n records 56 found m
  unfolding look_from walk_from
  walked = rw (lt-leb 0x8000_0000 i (omega (arith, (good-types s t g).low)), le-ltb i t.first low, lt-leb t.end i high)

  from_place : passed n records 56 found m ≡ passed (passed_between n) records (place_before ps n) found m
  from_place =
      let e : n / 64 * 64 + (n - n / 64 * 64) ≡ n = omega arith in
      ap (λ (c : ℕ). passed c records 56 found m) (sym e)
      ∙ passed-from (n / 64 * 64) (n - n / 64 * 64) records 56 (place_before ps n) (lent-entry s ps t g h (n / 64) (omega arith)).1 found m

  handed : found_from records (place_before ps n) (passed_between n) k m ≡ passed (passed_between n) records (place_before ps n) found m
  unfolding found_from
  handed =
      passed-moved records (place_before ps n) m (passed_between n) 0 _ found (λ y. record-moved records (place_before ps n) m y _ k (λ kind a b. refl))
      ∙ ap (λ (p : ℕ). passed (passed_between n) records p found m) (add-zero (place_before ps n))

  pub look-handed : look_up s t i k m x ≡ found_from records (place_before ps n) (passed_between n) k m
  look-handed = walked ∙ from_place ∙ sym handed

-- What is lent past the places of the stream changes nothing.
pub lent-front : (s ps : List ℕ) (t : Stream) → checked Types s ≡ Ok t → lent_places s (take (length (places_of t s)) ps) ≡ lent_places s ps
unfolding places_by
lent-front s ps t g = rw g (compared-front (places_of t s) ps 0)
