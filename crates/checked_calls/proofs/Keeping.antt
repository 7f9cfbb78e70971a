-- What is noted of the checks is kept of them. Assumes nothing.
use Rattle.std.specs.Prelude.{Result, Ok}
use Prim.Native.Nat.{ℕ, ◌-◌, ◌≤◌}
use mathlib.Core.Path.{◌≡◌, refl, sym, ◌∙◌, ap}
use mathlib.Core.List.{List, [], ◌++◌, append-nil}
use lib.ListN.{length, take, drop, length-append, length-drop, drop_of_length-le}
use lib.Seq.{length-take-le, take_all, drop_at}
use native.Mathlib.Omega.{arith}
use Rattle.streams.specs.Stream.{checked}
use Rattle.streams.specs.Places.{RightFor, NotedFor}
use Rattle.streams.specs.Bounds.{spacing_in, check_in, places_in, bounds_of}
use Rattle.streams.specs.declared.refusal.StreamKind.TheVariants.{Types, Ids}
use Rattle.streams.specs.declared.places.NotedCheck.{NotedCheck}
use Rattle.streams.proofs.Numbers.{types-back, ids-back, types-spacing, ids-spacing, types-check, ids-check, ids-behind}
use Rattle.record_places.specs.RecordPlaces.{lent_places}
use Rattle.record_places.proofs.Pass.{lent-right}
use Rattle.rules.specs.Places.{near}
use Rattle.checked_calls.specs.Kept.{KeptOf, Kept, KeptBeside, note_of, LentKept}
use Rattle.streams.specs.declared.refusal.Refusal.{Refusal}
use Rattle.streams.specs.declared.stream.Stream.{Stream}

-- The numbers of two checks, with the places of the ids behind them, and those of the types.
module _ (a b : NotedCheck) (count : ℕ) (qs : List ℕ) {r : List ℕ} (e : r ≡ bounds_of a b count ++ qs) (ps : List ℕ) where
  pub kept-types : (s old : List ℕ) → NotedFor Types s old ps a → KeptOf Types s (near r ps)
  unfolding places_in
  kept-types s old n =
      rw e
      (record {
        check = types-check a b count qs s n.is ∙ n.is;
        stream = λ t h. types-back a b count qs s n.is t (n.is ∙ h);
        right = λ t h. rw (types-spacing a b count qs) (n.right t (n.is ∙ h));
      })

  pub kept-ids : (s old : List ℕ) → NotedFor Ids s old qs b → KeptOf Ids s (near r ps)
  unfolding places_in
  kept-ids s old n =
      rw e
      (record {
        check = ids-check a b count qs s n.is ∙ n.is;
        stream = λ t h. ids-back a b count qs s n.is t (n.is ∙ h);
        right = λ t h. rw (ids-spacing a b count qs, ids-behind a b count qs) (n.right t (n.is ∙ h));
      })

  pub lent-check : (s : List ℕ) → a.check ≡ checked Types s → check_in r Types ≡ checked Types s
  lent-check s h = rw e (types-check a b count qs s h ∙ h)

-- The types alone: no places of ids.
pub kept-one : (a b : NotedCheck) (count : ℕ) {r : List ℕ} → r ≡ bounds_of a b count → (ps s old : List ℕ) → NotedFor Types s old ps a → KeptOf Types s (near r ps)
kept-one a b count e ps s old n = kept-types a b count [] (e ∙ sym (append-nil (bounds_of a b count))) ps s old n

-- The numbers that are stored before what was noted.
pub kept-beside : (a b : NotedCheck) (ids old zs new : List ℕ) (n k : ℕ) {ns : List ℕ} → 19 ≤ length old → ns ≡ bounds_of a b n → length ns ≡ 19 → n ≡ length old - 19 → k ≡ length old - 19
    → NotedFor Ids ids (take k (drop 19 old)) zs b → new ≡ ns ++ drop 19 (take 19 old ++ (zs ++ drop k (drop 19 old))) → KeptBeside a ids old new
kept-beside a b ids old zs new n k {ns} h e l f g noted i =
    record {
      b = b;
      noted = rw (behind, ← all) noted;
      is = whole ∙ ap (λ (r : List ℕ). ns ++ r) (sym behind) ∙ rw (e, f);
      sized = ap length whole ∙ length-append ns zs ∙ omega (arith, l, noted.sized, ap length all, length-drop 19 old);
    }
  where
    short : length (drop 19 old) ≤ k
    short = omega (arith, length-drop 19 old)

    all : take k (drop 19 old) ≡ drop 19 old
    all = take_all k (drop 19 old) short

    front : length (take 19 old) ≡ 19
    front = length-take-le 19 old h

    rest : drop 19 (take 19 old ++ (zs ++ drop k (drop 19 old))) ≡ zs
    rest = drop_at (take 19 old) (zs ++ drop k (drop 19 old)) 19 front ∙ ap (λ (r : List ℕ). zs ++ r) (drop_of_length-le (drop 19 old) short) ∙ append-nil zs

    whole : new ≡ ns ++ zs
    whole = i ∙ ap (λ (r : List ℕ). ns ++ r) rest

    behind : drop 19 new ≡ zs
    behind = ap (drop 19) whole ∙ drop_at ns zs 19 l

-- Both.
pub kept-both : (a : NotedCheck) (types ids old ps old₁ ns : List ℕ) → NotedFor Types types old ps a → KeptBeside a ids old₁ ns → Kept types ids (near ns ps)
kept-both a types ids old ps old₁ ns n w =
    record {
      of_types = kept-types a w.b (length old₁ - 19) (drop 19 ns) w.is ps types old n;
      of_ids = kept-ids a w.b (length old₁ - 19) (drop 19 ns) w.is ps ids (drop 19 old₁) w.noted;
    }

-- Places that were lent are kept where they are those of the stream.
lent-noted : (types ps : List ℕ) (c : (Result Stream Refusal)) → c ≡ checked Types types → lent_places types ps ≡ (Ok tt) → NotedFor Types types ps ps (note_of c)
lent-noted types ps c e h = record { is = e; sized = refl; right = λ t g. lent-right types ps t (sym e ∙ g) h 0xffff_ffff }

module _ (c : (Result Stream Refusal)) (b : NotedCheck) (count : ℕ) (qs : List ℕ) {r : List ℕ} (e : r ≡ bounds_of (note_of c) b count ++ qs) where
  pub lent-kept : (types ps : List ℕ) → c ≡ checked Types types → LentKept types ps r
  lent-kept types ps h = record { check = lent-check (note_of c) b count qs e ps types h; kept = λ g. kept-types (note_of c) b count qs e ps types ps (lent-noted types ps c h g) }

pub lent-alone : (c : (Result Stream Refusal)) (b : NotedCheck) (count : ℕ) {r : List ℕ} → r ≡ bounds_of (note_of c) b count → (types ps : List ℕ) → c ≡ checked Types types → LentKept types ps r
lent-alone c b count e types ps h = lent-kept c b count [] (e ∙ sym (append-nil (bounds_of (note_of c) b count))) types ps h

pub lent-beside : (c : (Result Stream Refusal)) (ids old new : List ℕ) {a : NotedCheck} → a ≡ note_of c → KeptBeside a ids old new → (types ps : List ℕ) → c ≡ checked Types types → LentKept types ps new × KeptOf Ids ids (near new ps)
lent-beside c ids old new {a} f w types ps h =
    (lent-kept c w.b (length old - 19) (drop 19 new) (rw f at w.is) types ps h, kept-ids a w.b (length old - 19) (drop 19 new) w.is ps ids (drop 19 old) w.noted)
