-- The table of primitive types: what a search of it answers, and that it has each code once. Assumes nothing.
use Rattle.std.proofs.Common.{◌≡◌, ◌≤◌, refl, sym, ◌∙◌, ap, ℕ, Bool, true, false, cond, List, [], ◌∷◌, Some, None, option_map, unwrap_or, map, Bor, length, max, ltb, ◌<◌, ◌+◌, ◌&&◌, zero, suc, add-one, arith}
use Rattle.std.specs.Prelude.{Option}
use Rattle.std.specs.List.{find, AllPairs}
use Rattle.std.specs.List.Sorted.{IsStrictlyIncreasing}
use Rattle.std.proofs.lemmas.List.Kept.{AllPairs-from_increasing}
use Rattle.std.proofs.Math.Nat.{le-max_left, le-max_right}
use lib.Dec.{eqb}
use borrow.Author.Tests.{ltb-true}
use Rattle.wire.specs.Field.{pick}
use Rattle.wire.proofs.Laws.{map-pick}
use Rattle.primitives.specs.Primitive.{Kind, kind_of, primitives, first_of}
use Rattle.primitives.specs.declared.PrimitiveKind.{PrimitiveKind}

-- What a search says of all that goes by it.
pub map_first : {A B : Type 0} (f : A → B) (code : ℕ) (l : List Kind) (k : Kind → A) (z : A) → f (first_of code l k z) ≡ first_of code l (λ e. f (k e)) (f z)
unfolding first_of
map_first f code [] k z = refl
map_first {A} {B} f code (x ∷ l) k z =
    map-pick f (eqb x.code code) (k x) (first_of code l k z)
    ∙ ap (λ (y : B). pick (eqb x.code code) (f (k x)) y) (map_first f code l k z)

-- One answer for every kind of a table, and one for none.
pub first-if : {A : Type 0} (code : ℕ) (l : List Kind) {r : Bool} → r ≡ first_of code l (λ _. true) false → {b : Bool} → r ≡ b → (x z : A) → first_of code l (λ _. x) z ≡ pick b x z
first-if code l {r} e {b} h x z =
    sym (map_first (λ (c : Bool). pick c x z) code l (λ _. true) false)
    ∙ ap (λ (c : Bool). pick c x z) (sym e ∙ h)

-- A search of the code's table finds what one of the definition's does.
find-first : (code : ℕ) (l : List PrimitiveKind) → option_map kind_of (find (λ k. eqb k.code code) l) ≡ first_of code (map kind_of l) (λ k. Some k) None
unfolding first_of
find-first code [] = refl
find-first code (k ∷ l) = by (eqb k.code code) (find-first code l)
  where
    by : (b : Bool) → option_map kind_of (find (λ k. eqb k.code code) l) ≡ first_of code (map kind_of l) (λ k. Some k) None
        → option_map kind_of (cond b (Some k) (find (λ k. eqb k.code code) l)) ≡ pick b (Some (kind_of k)) (first_of code (map kind_of l) (λ k. Some k) None)
    by true h = refl
    by false h = h

pub found : (code : ℕ) (l m : List PrimitiveKind) (r : Option (Bor PrimitiveKind)) → l ≡ m → map kind_of m ≡ primitives → option_map (λ k. k.now) r ≡ find (λ k. eqb k.code code) l
    → option_map (λ k. kind_of k.now) r ≡ first_of code primitives (λ k. Some k) None
found code l m r g e h = rw (← e, ← g) (there r ∙ ap (option_map kind_of) h ∙ find-first code l)
  where
    there : (r : Option (Bor PrimitiveKind)) → option_map (λ k. kind_of k.now) r ≡ option_map kind_of (option_map (λ k. k.now) r)
    there None = refl
    there (Some k) = refl

-- What is read of the kind that a search found is what the search says of it.
pub found-as : {A : Type 0} (f : Kind → A) (z : A) (code : ℕ) (r : Option (Bor PrimitiveKind)) → option_map (λ k. kind_of k.now) r ≡ first_of code primitives (λ k. Some k) None
    → unwrap_or (option_map (λ k. f (kind_of k.now)) r) z ≡ first_of code primitives f z
found-as f z code r h = there r ∙ ap (λ o. unwrap_or (option_map f o) z) h ∙ map_first (λ o. unwrap_or (option_map f o) z) code primitives (λ k. Some k) None
  where
    there : (r : Option (Bor PrimitiveKind)) → unwrap_or (option_map (λ k. f (kind_of k.now)) r) z ≡ unwrap_or (option_map f (option_map (λ k. kind_of k.now) r)) z
    there None = refl
    there (Some k) = refl

-- The longest name of a table: what a search answers is no longer.
longest : List Kind → ℕ
longest [] = 0
longest (k ∷ l) = max (length k.name) (longest l)

name-within : (code : ℕ) (l : List Kind) → length (first_of code l (λ k. k.name) []) ≤ longest l
unfolding first_of longest
name-within code [] = omega arith
name-within code (k ∷ l) = by (eqb k.code code) (name-within code l)
  where
    by : (b : Bool) → length (first_of code l (λ k. k.name) []) ≤ longest l → length (pick b k.name (first_of code l (λ k. k.name) [])) ≤ max (length k.name) (longest l)
    by true h = omega (arith, le-max_left)
    by false h = omega (arith, le-max_right)

pub name-short : (code : ℕ) → length (first_of code primitives (λ k. k.name) []) ≤ 20
unfolding primitives longest
name-short code = name-within code primitives

-- Numbers of which each is below the next.
rising : List ℕ → Bool
rising (a ∷ b ∷ l) = ltb a b && rising (b ∷ l)
rising _ = true

rising-next : (l : List ℕ) → rising l ≡ true → IsStrictlyIncreasing l
unfolding rising
rising-next [] e k h = absurd (omega arith)
rising-next (a ∷ []) e k h = absurd (omega arith)
rising-next (a ∷ b ∷ l) e k h = by (ltb a b) refl e (rising-next (b ∷ l)) k h
  where
    by : (t : Bool) → ltb a b ≡ t → (t && rising (b ∷ l)) ≡ true → (rising (b ∷ l) ≡ true → IsStrictlyIncreasing (b ∷ l)) → IsStrictlyIncreasing (a ∷ b ∷ l)
    by false f e next k h = cc
    by true f e next zero h = ltb-true a b f
    by true f e next (suc k) h = let r : k + 1 < length (b ∷ l) = omega arith in rw (add-one (suc k)) (rw (add-one k) at (next e k r))

-- The table has 43 kinds.
pub forty-three : length primitives ≡ 43
unfolding primitives
forty-three = refl

-- The table's rule, computed once over the whole table: the codes rise, so each stands in it once.
pub codes-rise : AllPairs (λ a b. a < b) (map (λ k. k.code) primitives)
unfolding primitives rising
codes-rise = let codes = map (λ k. k.code) primitives in AllPairs-from_increasing codes (rising-next codes refl)
