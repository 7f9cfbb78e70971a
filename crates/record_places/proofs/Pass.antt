-- Laws of the pass that fills places, and of the check of a stream with lent ones. Assumes nothing.
use Rattle.std.specs.Prelude.{Option, Some, None, IfSome, Ok, Err}
use Rattle.std.specs.Option.{option_map_or}
use Prim.Native.Nat.{ℕ, ◌+◌, ◌-◌, ◌*◌, ◌≤◌, ◌<◌}
use native.Mathlib.Nat.{zero-add}
use native.Mathlib.Omega.{arith}
use mathlib.Core.Path.{◌≡◌, refl, sym, ◌∙◌, ap}
use mathlib.Core.Bool.{Bool, true, false}
use mathlib.Core.List.{List, ◌++◌}
use lib.ListN.{length, take, drop, get_or, length-append, length-drop, get_or-append}
use lib.Seq.{length-take-le, get_or-append-add, get_or-drop, ext_get_or}
use lib.Dec.{leb, ltb, eqb}
use borrow.Author.Tests.{leb-true, ltb-true, ltb-false}
use Rattle.wire.specs.Field.{pick}
use Rattle.streams.specs.Stream.{header, passed, tiled, no_ids, headless, checked}
use Rattle.streams.specs.Places.{RightFor, strided, Noted}
use Rattle.streams.specs.declared.refusal.StreamKind.TheVariants.{Types}
use Rattle.streams.specs.declared.refusal.Refusal.TheVariants.{Header, Tiling, WrongPlace}
use Rattle.streams.specs.declared.stream.Stream.{Stream}
use Rattle.streams.proofs.Walk.{headed_fits, header-good, header-broken, passed-at, passed-beyond, passed_on}
use Rattle.streams.proofs.Marks.{strided-right}
use Rattle.record_places.specs.RecordPlaces.{record_place, places_from, entries_for, places_of, compared, places_by, lent_places, Pass, leaves, refused_pass, filled_by}
use Rattle.record_places.proofs.Laws.{place_at, length-places, get-places, entries-more, entries-back, entries-past, compared-right}
use Rattle.streams.specs.Stream.{headed}

-- What the header of the types says where there is one.
pub header_fits : (s : List ℕ) → (header s headed None ≡ header s headed None) × IfSome (header s headed None) (λ t. (t.first ≤ t.end) × (t.stop ≤ length s) × (length s ≤ 16_777_216) × (length (take t.stop s) ≡ t.stop))
header_fits s = (refl, go (header s headed None) refl)
  where
    go : (h : Option Stream) → header s headed None ≡ h → IfSome h (λ t. (t.first ≤ t.end) × (t.stop ≤ length s) × (length s ≤ 16_777_216) × (length (take t.stop s) ≡ t.stop))
    go (Some t) e = let w = headed_fits s t e in (w.onward, w.inside, w.small, length-take-le t.stop s w.inside)
    go None e = tt

-- The check of the types goes by the header, and by where the walk over the records ends.
abbrev pub ends_at : List ℕ → Stream → Bool
ends_at s t = option_map_or (λ at. eqb at t.stop) (passed (t.end - t.first) (take t.stop s) 56 Some None) false

ends_tiled : (s : List ℕ) (t : Stream) → t.stop ≤ length s → tiled (t.end - t.first) (take t.stop s) ≡ ends_at s t
unfolding tiled
ends_tiled s t l = by (passed (t.end - t.first) (take t.stop s) 56 Some None) refl
  where
    by : (r : Option ℕ) → passed (t.end - t.first) (take t.stop s) 56 Some None ≡ r → passed (t.end - t.first) (take t.stop s) 56 (λ at. eqb at (length (take t.stop s))) false ≡ option_map_or (λ at. eqb at t.stop) r false
    by (Some at) e = passed-at (t.end - t.first) (take t.stop s) 56 refl at e _ _ ∙ rw (length-take-le t.stop s l)
    by None e = passed-beyond (t.end - t.first) (take t.stop s) 56 refl e _ _

pub checked_by : (s : List ℕ) → checked Types s ≡ option_map_or (λ t. pick (ends_at s t) (Ok t) (Err (Tiling Types))) (header s headed None) (Err (Header Types))
unfolding checked headless no_ids
checked_by s = go (header s headed None) refl
  where
    go : (h : Option Stream) → header s headed None ≡ h → checked Types s ≡ option_map_or (λ t. pick (ends_at s t) (Ok t) (Err (Tiling Types))) h (Err (Header Types))
    go (Some t) e = header-good s refl t.first t.end t.stop e _ _ ∙ ap (λ (b : Bool). pick b (Ok t) (Err (Tiling Types))) (ends_tiled s t (headed_fits s t e).inside)
    go None e = header-broken s refl e _ _

-- The pass over a stream that has a header.
module _ (s old new : List ℕ) (t : Stream) {r : Option ℕ} (w : Noted (take t.stop s) 56 (t.end - t.first) 64 old new r) where
  abbrev needed : ℕ
  needed = entries_for (t.end - t.first)

  sized : length (places_of t s) ≡ needed
  unfolding places_of
  sized = length-places (take t.stop s) needed 0

  entry : (i : ℕ) → i < needed → get_or (places_of t s) i 0 ≡ record_place (take t.stop s) (i * 64)
  unfolding places_of
  entry i h = get-places (take t.stop s) needed 0 i h ∙ ap (λ (n : ℕ). record_place (take t.stop s) (n * 64)) (zero-add i)

  filled : (at : ℕ) → r ≡ Some at → needed ≤ length new → new ≡ places_of t s ++ drop needed old
  filled at h l = ext_get_or 0 new (places_of t s ++ drop needed old) (omega (arith, length-append (places_of t s) (drop needed old), length-drop needed old, sized, w.sized)) (λ i j. go i j (ltb i needed) refl)
    where
      go : (i : ℕ) → i < length new → (b : Bool) → ltb i needed ≡ b → get_or new i 0 ≡ get_or (places_of t s ++ drop needed old) i 0
      go i j true e =
          let k : i < needed = ltb-true i needed e in
          let p : passed (i * 64) (take t.stop s) 56 Some None ≡ Some (get_or new i 0) = rw (zero-add i) at (w.right at h i (omega (arith, w.sized)) (entries-back (t.end - t.first) i k)) in
          sym (get_or-append (places_of t s) (drop needed old) 0 i (omega (arith, sized)) ∙ entry i k ∙ place_at (take t.stop s) (i * 64) (get_or new i 0) p)
      go i j false e =
          let k : needed ≤ i = ltb-false i needed e in
          let u : length (places_of t s) + (i - needed) ≡ i = omega (arith, sized) in
          let v : needed + (i - needed) ≡ i = omega arith in
          w.rest i (entries-past (t.end - t.first) i k)
          ∙ sym (ap (λ (n : ℕ). get_or (places_of t s ++ drop needed old) n 0) (sym u) ∙ get_or-append-add (places_of t s) (drop needed old) (i - needed) 0 ∙ get_or-drop needed old (i - needed) 0 ∙ ap (λ (n : ℕ). get_or old n 0) v)

  pub filled_as : (at : ℕ) → r ≡ Some at → filled_by (places_of t s) old ≡ pick (leb needed (length new)) (leaves new (Ok needed)) (refused_pass new (WrongPlace (length new)))
  unfolding filled_by
  filled_as at h = rw (sized, ← w.sized) (by (leb needed (length new)) refl)
    where
      other : Pass
      other = refused_pass new (WrongPlace (length new))

      by : (b : Bool) → leb needed (length new) ≡ b → pick b (leaves (places_of t s ++ drop needed old) (Ok needed)) other ≡ pick b (leaves new (Ok needed)) other
      by true e = ap (λ (l : List ℕ). leaves l (Ok needed)) (sym (filled at h (leb-true needed (length new) e)))
      by false e = refl

-- A good stream's records tile, and its end index is no more than 0x80000000.
pub record GoodTypes (s : List ℕ) (t : Stream) : Type 0 where
  pub tiles : tiled (t.end - t.first) (take t.stop s) ≡ true
  pub low : t.end ≤ 0x8000_0000

pub good-types : (s : List ℕ) (t : Stream) → checked Types s ≡ Ok t → GoodTypes s t
unfolding checked headless no_ids
good-types s t g = go (header s headed None) refl g
  where
    by : (b : Bool) (u : Stream) → tiled (u.end - u.first) (take u.stop s) ≡ b → u.end ≤ 0x8000_0000 → pick b (Ok u) (Err (Tiling Types)) ≡ Ok t → GoodTypes s t
    by true u e l q = let w : u ≡ t = cc in rw (sym w) (record { tiles = e; low = l })
    by false u e l q = absurd cc

    go : (h : Option Stream) → header s headed None ≡ h → checked Types s ≡ Ok t → GoodTypes s t
    go (Some u) e q = by (tiled (u.end - u.first) (take u.stop s)) u refl (headed_fits s u e).low (sym (header-good s refl u.first u.end u.stop e _ _) ∙ q)
    go None e q = let y = sym (header-broken s refl e _ _) ∙ q in absurd cc

-- Lent places that are right lead every look-up to its record.
module _ (s ps : List ℕ) (t : Stream) (g : checked Types s ≡ Ok t) (h : lent_places s ps ≡ Ok tt) where
  abbrev count : ℕ
  count = t.end - t.first

  abbrev records : List ℕ
  records = take t.stop s

  same : compared (places_from (entries_for count) 0 records) ps 0 ≡ Ok tt
  unfolding places_by places_of
  same = rw g at h

  -- A walk over some of the records comes to a place.
  reached : (n : ℕ) → n < count → passed n records 56 Some None ≡ Some (record_place records n)
  unfolding tiled
  reached n l = go (passed n records 56 Some None) refl
    where
      whole : n + (count - n) ≡ count
      whole = omega arith

      go : (p : Option ℕ) → passed n records 56 Some None ≡ p → passed n records 56 Some None ≡ Some (record_place records n)
      go (Some x) e = rw (place_at records n x e) e
      go None e =
          let f = ap (λ (m : ℕ). passed m records 56 (λ at. eqb at (length records)) false) (sym whole) ∙ passed_on n (count - n) records 56 (λ at. eqb at (length records)) false ∙ passed-beyond n records 56 refl e (λ at. passed (count - n) records at (λ at. eqb at (length records)) false) false in
          let z : true ≡ false = sym (good-types s t g).tiles ∙ f in
          absurd cc

  pub lent-entry : (k : ℕ) → k * 64 < count → (k < length ps) × (passed (k * 64) records 56 Some None ≡ Some (get_or ps k 0))
  lent-entry k l =
      let i : k < entries_for count = entries-more count k l in
      let c = compared-right (places_from (entries_for count) 0 records) ps 0 same k (omega (arith, length-places records (entries_for count) 0)) in
      let p : get_or ps k 0 ≡ record_place records (k * 64) = c.1 ∙ get-places records (entries_for count) 0 k i ∙ ap (λ (n : ℕ). record_place records (n * 64)) (zero-add k) in
      (c.0, rw p (reached (k * 64) l))

  pub lent-right : (room : ℕ) → RightFor (strided 64 room) ps s t
  lent-right room = strided-right 64 room ps count records (omega (arith, (good-types s t g).low)) (λ k i l. rw (zero-add k) (lent-entry k l).1)
