-- Laws of a stream that is handed on from a place: a walk over it is the walk over the whole from that place, with every place moved by as much. Assumes
-- nothing.
use Rattle.std.specs.Prelude.{Option, Some, None, Result, Ok, Err, IfOk}
use Rattle.std.proofs.lemmas.Result.{IfOk-at_ok}
use Prim.Native.Nat.{ℕ, zero, suc, ◌+◌, ◌-◌, ◌≤◌, ◌<◌}
use native.Mathlib.Nat.{add-zero}
use native.Mathlib.Omega.{arith}
use mathlib.Core.Path.{◌≡◌, refl, sym, ◌∙◌, ap}
use mathlib.Core.Bool.{Bool, true, false}
use mathlib.Core.List.{List}
use lib.ListN.{length, take, drop, length-drop}
use lib.Seq.{get_or-drop}
use lib.Dec.{leb}
use borrow.Author.Tests.{leb-true, leb-false, le-leb, lt-leb}
use Rattle.wire.specs.Field.{pick, number, field}
use Rattle.streams.specs.Stream.{behind, passed, stands, record_at, record_behind}
use Rattle.streams.proofs.Walk.{passed-all, record_at-all, map-passed, map-record, passed-bound}
use Rattle.streams.proofs.Numbers.{rest-whole}
use Rattle.streams.specs.declared.stream.RecordAt.{RecordAt}
use Rattle.streams.specs.declared.stream.Absent.{Absent}
use Rattle.streams.specs.declared.stream.Absent.TheVariants as absent

number-moved : (w : ℕ) (s : List ℕ) (p at : ℕ) → number w (drop p s) at ≡ number w s (p + at)
unfolding number
number-moved zero s p at = refl
number-moved (suc w) s p at =
    let e : p + (at + 1) ≡ p + at + 1 = omega arith in
    rw (get_or-drop p s at 0, number-moved w s p (at + 1), e)

-- A part that has bytes lies inside what is left where it lies inside the whole.
inside-moved : (a p l : ℕ) → 0 < a → leb a (l - p) ≡ leb (p + a) l
inside-moved a p l h = go (leb (p + a) l) refl
  where
    go : (b : Bool) → leb (p + a) l ≡ b → leb a (l - p) ≡ b
    go true e = le-leb a (l - p) (omega (arith, leb-true (p + a) l e))
    go false e = lt-leb a (l - p) (omega (arith, leb-false (p + a) l e))

module _ {A : Type 0} (s : List ℕ) (p : ℕ) (z : A) where
  field-moved : (at : ℕ) (k k₁ : ℕ → A) → ((x : ℕ) → k x ≡ k₁ x) → field 2 (drop p s) at k z ≡ field 2 s (p + at) k₁ z
  unfolding field
  field-moved at k k₁ h =
      let e : p + (at + 2) ≡ p + at + 2 = omega arith in
      rw (length-drop p s, inside-moved (at + 2) p (length s) (omega arith), e, number-moved 2 s p at, h (number 2 s (p + at)))

  -- What is handed on of the place behind a record may differ as that place does.
  behind_moved : (at : ℕ) (k k₁ : ℕ → A) → ((x : ℕ) → k x ≡ k₁ (p + x)) → behind (drop p s) at k z ≡ behind s (p + at) k₁ z
  unfolding behind
  behind_moved at k k₁ h = field-moved at _ _ ends
    where
      ends : (len : ℕ) → pick (leb 2 len) (pick (leb (at + 2 + len) (length (drop p s))) (k (at + 2 + len)) z) z ≡ pick (leb 2 len) (pick (leb (p + at + 2 + len) (length s)) (k₁ (p + at + 2 + len)) z) z
      ends len =
          let e : p + (at + 2 + len) ≡ p + at + 2 + len = omega arith in
          rw (length-drop p s, inside-moved (at + 2 + len) p (length s) (omega arith), h (at + 2 + len), e)

  pub passed-moved : (n at : ℕ) (k k₁ : ℕ → A) → ((x : ℕ) → k x ≡ k₁ (p + x)) → passed n (drop p s) at k z ≡ passed n s (p + at) k₁ z
  unfolding passed
  passed-moved zero at k k₁ h = h at
  passed-moved (suc n) at k k₁ h = behind_moved at (λ at. passed n (drop p s) at k z) (λ at. passed n s at k₁ z) (λ x. passed-moved n x k k₁ h)

  pub record-moved : (at : ℕ) (f f₁ : ℕ → ℕ → ℕ → A) → ((kind a b : ℕ) → f kind a b ≡ f₁ kind (p + a) (p + b)) → record_at (drop p s) at f z ≡ record_at s (p + at) f₁ z
  unfolding record_at
  record-moved at f f₁ h = behind_moved at _ _ kinds
    where
      kinds : (x : ℕ) → field 2 (drop p s) (at + 2) (λ kind. f kind (at + 4) x) z ≡ field 2 s (p + at + 2) (λ kind. f₁ kind (p + at + 4) (p + x)) z
      kinds x =
          let e : p + (at + 2) ≡ p + at + 2 = omega arith in
          let g : p + (at + 4) ≡ p + at + 4 = omega arith in
          field-moved (at + 2) (λ kind. f kind (at + 4) x) (λ kind. f₁ kind (p + at + 4) (p + x)) (λ kind. h kind (at + 4) x ∙ rw g) ∙ rw e

-- What is handed on of the stream, and the answers of the two walks, moved.
abbrev handed : List ℕ → ℕ → List ℕ
handed s p = take (length s - p) (drop p s)

abbrev moved_found : ℕ → Result RecordAt Absent → Result RecordAt Absent
moved_found p (Ok r) = stands r.kind (p + r.start) (p + r.end)
moved_found p (Err e) = Err e

abbrev moved_place : ℕ → Option ℕ → Option ℕ
moved_place p (Some x) = Some (p + x)
moved_place p None = None

module _ (n : ℕ) (s : List ℕ) (p : ℕ) where
  found : moved_found p (record_behind n (handed s p) 0) ≡ record_behind n s p
  unfolding record_behind
  found =
      rw (rest-whole s p)
      (map-passed (moved_found p) (drop p s) n 0 (λ at. record_at (drop p s) at stands (Err absent.Missing)) (Err absent.Missing)
      ∙ passed-moved s p (Err absent.Missing) n 0 _ (λ at. record_at s at stands (Err absent.Missing)) each
      ∙ ap (λ (x : ℕ). passed n s x (λ at. record_at s at stands (Err absent.Missing)) (Err absent.Missing)) (add-zero p))
    where
      each : (x : ℕ) → moved_found p (record_at (drop p s) x stands (Err absent.Missing)) ≡ record_at s (p + x) stands (Err absent.Missing)
      each x =
          map-record (moved_found p) (drop p s) x stands (Err absent.Missing)
          ∙ record-moved s p (Err absent.Missing) x _ stands (λ kind a b. refl)

  place : moved_place p (passed n (handed s p) 0 Some None) ≡ passed n s p Some None
  place =
      rw (rest-whole s p)
      (map-passed (moved_place p) (drop p s) n 0 Some None
      ∙ passed-moved s p None n 0 _ Some (λ x. refl)
      ∙ ap (λ (x : ℕ). passed n s x Some None) (add-zero p))

  pub found_ok : (r : RecordAt) → record_behind n (handed s p) 0 ≡ Ok r → record_behind n s p ≡ Ok (record { kind = r.kind; start = p + r.start; end = p + r.end })
  found_ok r e = rw (← found, e)

  pub found_err : (f : Absent) → record_behind n (handed s p) 0 ≡ Err f → record_behind n s p ≡ Err f
  found_err f e = rw (← found, e)

  pub place_some : (x : ℕ) → passed n (handed s p) 0 Some None ≡ Some x → passed n s p Some None ≡ Some (p + x)
  place_some x e = rw (← place, e)

  pub place_none : passed n (handed s p) 0 Some None ≡ None → passed n s p Some None ≡ None
  place_none e = rw (← place, e)

  -- What was come to lies inside the whole.
  handed-length : p ≤ length s → p + length (handed s p) ≡ length s
  handed-length h = rw (rest-whole s p) (omega (arith, length-drop p s))

  pub found_fits : p ≤ length s → (r : RecordAt) → record_behind n (handed s p) 0 ≡ Ok r → (p + r.start ≤ length s) × (p + r.end ≤ length s)
  unfolding record_behind
  found_fits h r e =
      let i : (r.start ≤ r.end) × (r.end ≤ length (handed s p)) =
      IfOk-at_ok (λ (r : RecordAt). (r.start ≤ r.end) × (r.end ≤ length (handed s p))) e
      (passed-all (λ (r : Result RecordAt Absent). IfOk r (λ r. (r.start ≤ r.end) × (r.end ≤ length (handed s p)))) (handed s p) n 0 (λ at. record_at (handed s p) at stands (Err absent.Missing)) (Err absent.Missing)
      (λ next. record_at-all (λ (r : Result RecordAt Absent). IfOk r (λ r. (r.start ≤ r.end) × (r.end ≤ length (handed s p)))) (handed s p) next stands (Err absent.Missing) (λ kd a b i j. (i, j)) tt) tt) in
      (omega (arith, handed-length h, i.0, i.1), omega (arith, handed-length h, i.1))

  pub place_fits : p ≤ length s → (x : ℕ) → passed n (handed s p) 0 Some None ≡ Some x → p + x ≤ length s
  place_fits h x e = omega (arith, handed-length h, passed-bound n (handed s p) 0 (length (handed s p)) x (omega arith) (omega arith) e)
