-- Laws of the numbers in which a check is kept: what is noted of a check is read back. Assumes nothing.
use Rattle.std.specs.Prelude.{Option, Some, None, Result, Ok, Err}
use Prim.Native.Nat.{ℕ, zero, suc, ◌+◌, ◌-◌, ◌≤◌, ◌<◌, min}
use native.Mathlib.Nat.{not-suc-le-zero, zero-min, suc-min-suc}
use native.Mathlib.Numerals.{add-one}
use native.Mathlib.Omega.{arith}
use mathlib.Core.Path.{◌≡◌, refl, sym, ◌∙◌, ap}
use mathlib.Core.Bool.{Bool, true, false}
use mathlib.Core.List.{List, [], ◌∷◌, ◌++◌, append_assoc}
use lib.ListN.{length, take, drop, get_or, set, drop_of_length-le, length-take, length-drop}
use lib.Seq.{take_all, take-suc, drop-cons, set_at}
use Rattle.wire.specs.Field.{pick}
use Rattle.streams.specs.Stream.{header, tiled, none, no_ids, headless, checked}
use Rattle.streams.specs.Bounds.{start_of, stream_in, spacing_in, check_in, places_in, state_of, stream_of, bounds_of}
use Rattle.streams.specs.declared.refusal.StreamKind.{StreamKind}
use Rattle.streams.specs.declared.refusal.StreamKind.TheVariants.{Types, Ids}
use Rattle.streams.specs.declared.refusal.Refusal.TheVariants.{Header, Tiling}
use Rattle.streams.specs.declared.stream.Stream.{Stream}
use Rattle.streams.specs.declared.places.NotedCheck.{NotedCheck}
use Rattle.streams.proofs.Walk.{header-good, header-broken, header-within, header-small}
use Rattle.streams.specs.declared.refusal.Refusal.{Refusal}
use Rattle.streams.specs.Stream.{headed}

-- Past the end of a list stands nothing, and a part from past the end is empty.
pub get_d_past : (l : List ℕ) (i : ℕ) → length l ≤ i → get_or l i 0 ≡ 0
get_d_past [] i h = refl
get_d_past (x ∷ l) zero h = absurd (not-suc-le-zero h)
get_d_past (x ∷ l) (suc i) h = get_d_past l i (omega arith)

pub drop-shorter : (s : List ℕ) (n : ℕ) → drop (min n (length s)) s ≡ drop n s
drop-shorter [] zero = refl
drop-shorter [] (suc n) = let h : 0 ≤ min (suc n) (length {A = ℕ} []) = omega arith in drop_of_length-le [] h
drop-shorter (x ∷ s) zero = rw (zero-min (suc (length s)))
drop-shorter (x ∷ s) (suc n) = rw (suc-min-suc n (length s)) (drop-shorter s n)

pub rest-whole : (s : List ℕ) (n : ℕ) → take (length s - n) (drop n s) ≡ drop n s
rest-whole s n = let h : length (drop n s) ≤ length s - n = omega (arith, length-drop n s) in take_all (length s - n) (drop n s) h

pub ruleset left = (drop-shorter, rest-whole)

-- The three answers of a check. A good stream's bounds are numbers that fit.
pub record Fitting (t : Stream) : Type 0 where
  pub fits : min t.stop 0xffff_ffff ≡ t.stop

module _ (which : StreamKind) (s : List ℕ) (P : (Result Stream Refusal) → Type 0) (g : (t : Stream) → Fitting t → P (Ok t)) (x : P (Err (Tiling which))) (y : P (Err (Header which))) where
  pub by-check : P (checked which s)
  unfolding checked headless
  by-check = go (header s headed None) refl
    where
      tiling : (b : Bool) (t : Stream) → Fitting t → P (pick b (Ok t) (Err (Tiling which)))
      tiling true t f = g t f
      tiling false t f = x

      broken : (b : Bool) → P (pick b (Ok none) (Err (Header which)))
      broken true = g none (record { fits = omega arith })
      broken false = y

      go : (h : (Option Stream)) → h ≡ header s headed None → P (header s (λ first end stop. pick (tiled (end - first) (take stop s)) (Ok (record { first = first; end = end; stop = stop })) (Err (Tiling which))) (pick (no_ids which s) (Ok none) (Err (Header which))))
      go (Some t) e =
          rw (header-good s e t.first t.end t.stop refl)
          (tiling (tiled (t.end - t.first) (take t.stop s)) t (record { fits = omega (arith, (header-within s e t.first t.end t.stop refl).1, header-small s e t.first t.end t.stop refl) }))
      go None e = rw (header-broken s e refl) (broken (no_ids which s))

-- What the state of a check says.
module _ (ns : List ℕ) (which : StreamKind) where
  state-good : (t : Stream) → get_or ns (start_of which) 0 ≡ state_of (Ok t) → check_in ns which ≡ Ok (stream_in ns which)
  unfolding check_in state_of
  state-good t e = rw e

  state-tiling : get_or ns (start_of which) 0 ≡ state_of (Err (Tiling which)) → check_in ns which ≡ Err (Tiling which)
  unfolding check_in state_of
  state-tiling e = rw e

  state-header : get_or ns (start_of which) 0 ≡ state_of (Err (Header which)) → check_in ns which ≡ Err (Header which)
  unfolding check_in state_of
  state-header e = rw e

-- What is read back of a good check is its stream and its spacing; of any check its answer.
module _ (a b : NotedCheck) (count : ℕ) (qs : List ℕ) where
  pub types-back : (s : List ℕ) → a.check ≡ checked Types s → (t : Stream) → a.check ≡ Ok t → stream_in (bounds_of a b count ++ qs) Types ≡ t
  unfolding stream_in start_of bounds_of stream_of
  types-back s e t h = rw h (ap (λ (n : ℕ). record { first = t.first; end = t.end; stop = n }) (by-check Types s (λ c. c ≡ Ok t → min t.stop 0xffff_ffff ≡ t.stop) (λ u f q. let w : u ≡ t = cc in rw (sym w) f.fits) (λ q. let w : ◌≡◌ {A = ℕ} 0 1 = cc in absurd (omega arith)) (λ q. let w : ◌≡◌ {A = ℕ} 0 1 = cc in absurd (omega arith)) (sym e ∙ h)))

  pub ids-back : (s : List ℕ) → b.check ≡ checked Ids s → (t : Stream) → b.check ≡ Ok t → stream_in (bounds_of a b count ++ qs) Ids ≡ t
  unfolding stream_in start_of bounds_of stream_of
  ids-back s e t h = rw h (ap (λ (n : ℕ). record { first = t.first; end = t.end; stop = n }) (by-check Ids s (λ c. c ≡ Ok t → min t.stop 0xffff_ffff ≡ t.stop) (λ u f q. let w : u ≡ t = cc in rw (sym w) f.fits) (λ q. let w : ◌≡◌ {A = ℕ} 0 1 = cc in absurd (omega arith)) (λ q. let w : ◌≡◌ {A = ℕ} 0 1 = cc in absurd (omega arith)) (sym e ∙ h)))

  pub types-spacing : spacing_in (bounds_of a b count ++ qs) Types ≡ a.spacing
  unfolding spacing_in start_of bounds_of
  types-spacing = refl

  pub ids-spacing : spacing_in (bounds_of a b count ++ qs) Ids ≡ b.spacing
  unfolding spacing_in start_of bounds_of
  ids-spacing = refl

  types-state : {c : (Result Stream Refusal)} → a.check ≡ c → get_or (bounds_of a b count ++ qs) (start_of Types) 0 ≡ state_of c
  unfolding start_of bounds_of
  types-state h = ap (λ (c : (Result Stream Refusal)). state_of c) h

  ids-state : {c : (Result Stream Refusal)} → b.check ≡ c → get_or (bounds_of a b count ++ qs) (start_of Ids) 0 ≡ state_of c
  unfolding start_of bounds_of
  ids-state h = ap (λ (c : (Result Stream Refusal)). state_of c) h

  pub types-check : (s : List ℕ) → a.check ≡ checked Types s → check_in (bounds_of a b count ++ qs) Types ≡ a.check
  types-check s e =
      by-check Types s (λ c. a.check ≡ c → check_in (bounds_of a b count ++ qs) Types ≡ c)
      (λ t f h. state-good (bounds_of a b count ++ qs) Types t (types-state h) ∙ ap (λ (t : Stream). Ok t) (types-back s e t h))
      (λ h. state-tiling (bounds_of a b count ++ qs) Types (types-state h)) (λ h. state-header (bounds_of a b count ++ qs) Types (types-state h)) e ∙ sym e

  pub ids-check : (s : List ℕ) → b.check ≡ checked Ids s → check_in (bounds_of a b count ++ qs) Ids ≡ b.check
  ids-check s e =
      by-check Ids s (λ c. b.check ≡ c → check_in (bounds_of a b count ++ qs) Ids ≡ c)
      (λ t f h. state-good (bounds_of a b count ++ qs) Ids t (ids-state h) ∙ ap (λ (t : Stream). Ok t) (ids-back s e t h))
      (λ h. state-tiling (bounds_of a b count ++ qs) Ids (ids-state h)) (λ h. state-header (bounds_of a b count ++ qs) Ids (ids-state h)) e ∙ sym e

  pub ids-behind : places_in (bounds_of a b count ++ qs) [] Ids ≡ qs
  unfolding places_in bounds_of
  ids-behind = refl
