-- Laws of the buffer in which what is kept of the checks stands: what is stored in it, and how many places serve. Assumes nothing.
use Prim.Native.Nat.{ℕ, ◌+◌, ◌-◌, ◌≤◌, ◌<◌}
use native.Mathlib.Nat.{div-zero, div-le_self}
use native.Mathlib.Omega.{arith}
use mathlib.Core.Path.{◌≡◌, refl, sym, ◌∙◌, ap}
use mathlib.Core.List.{List, ◌++◌, append-nil}
use lib.ListN.{length, take, drop, get_or, length-append, length-drop, drop_of_length-le, get_or-append}
use lib.Seq.{length-take-le, take_at, drop_at}
use Rattle.streams.specs.Places.{NotedFor}
use Rattle.streams.specs.Bounds.{bounds_of}
use Rattle.streams.specs.declared.refusal.StreamKind.TheVariants.{Types}
use Rattle.streams.specs.declared.places.NotedCheck.{NotedCheck}
use Rattle.checked_calls.specs.Kept.{Kept, KeptBeside, kept_in, places_for}
use Rattle.checked_calls.proofs.Keeping.{kept-both}

-- The last of the numbers says how many places of the ids follow.
last-number : (a b : NotedCheck) (count : ℕ) (qs : List ℕ) → get_or (bounds_of a b count ++ qs) 18 0 ≡ count
unfolding bounds_of
last-number a b count qs = refl

-- What is kept in one buffer: the places of the types, `ys`, were noted from `split` on, and then what is before it was filled with `zs`.
module _ (a : NotedCheck) (types ids old ys zs : List ℕ) (split k : ℕ) where
  abbrev pub midway : List ℕ
  midway = take split old ++ (ys ++ drop k (drop split old))

  pub kept_in_lem : 19 ≤ split → split ≤ length old → k ≡ length old - split → NotedFor Types types (take k (drop split old)) ys a → KeptBeside a ids (take split midway) zs → Kept types ids (kept_in (zs ++ drop split midway))
  kept_in_lem l h f n w = rw (counted, front, back) (kept-both a types ids (take k (drop split old)) ys (take split midway) zs n w)
    where
      front-old : length (take split old) ≡ split
      front-old = length-take-le split old h

      short : length (drop split old) ≤ k
      short = omega (arith, length-drop split old)

      middle : midway ≡ take split old ++ ys
      middle = ap (λ (r : List ℕ). take split old ++ (ys ++ r)) (drop_of_length-le (drop split old) short) ∙ ap (λ (r : List ℕ). take split old ++ r) (append-nil ys)

      first_part : take split midway ≡ take split old
      first_part = ap (take split) middle ∙ take_at (take split old) ys split front-old

      second-part : drop split midway ≡ ys
      second-part = ap (drop split) middle ∙ drop_at (take split old) ys split front-old

      sized : length zs ≡ split
      sized = w.sized ∙ ap length first_part ∙ front-old

      front : take split (zs ++ drop split midway) ≡ zs
      front = take_at zs (drop split midway) split sized

      back : drop split (zs ++ drop split midway) ≡ ys
      back = drop_at zs (drop split midway) split sized ∙ second-part

      count-is : length (take split midway) - 19 ≡ split - 19
      count-is = ap (λ (m : ℕ). m - 19) (ap length first_part ∙ front-old)

      number : get_or (zs ++ drop split midway) 18 0 ≡ split - 19
      number =
          get_or-append zs (drop split midway) 0 18 (omega (arith, sized, l))
          ∙ ap (λ (r : List ℕ). get_or r 18 0) w.is ∙ last-number a w.b (length (take split midway) - 19) (drop 19 zs) ∙ count-is

      counted : 19 + get_or (zs ++ drop split midway) 18 0 ≡ split
      counted = omega (arith, number, l)

-- How many places serve.
pub places-none : (stride n : ℕ) → stride ≡ 0 → 0 ≡ places_for stride n
unfolding places_for
places-none stride n e = rw e (sym (div-zero (n + (0 - 1))))

pub places-low : (stride n : ℕ) → stride < 0x1_0000_0000 → n < 0x1_0000_0000 → places_for stride n ≤ 0x2_0000_0000
unfolding places_for
places-low stride n h j = omega (arith, div-le_self (n + (stride - 1)) stride)
