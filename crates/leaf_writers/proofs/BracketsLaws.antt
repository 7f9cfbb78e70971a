-- The laws of an array's brackets. Assumes nothing.
use Prim.Native.Nat.{ℕ, zero, suc, ◌+◌, ◌-◌, ◌/◌, ◌<◌, ◌≤◌}
use mathlib.Core.Path.{◌≡◌, refl, sym, ◌∙◌}
use mathlib.Core.List.{List, [], ◌++◌}
use lib.ListN.{length, drop, get_or, drop_of_length-le}
use lib.Seq.{drop-cons}
use native.Mathlib.Numerals.{add-one}
use native.Mathlib.Omega.{arith}
use borrow.Author.Tests.{lt-ltb, le-ltb}
use Rattle.wire.specs.Text.{bytes}
use Rattle.rules.specs.Text.{decimal, bracket, brackets}
use Rattle.pen.specs.Page.{writing}
use Rattle.leaf_writers.specs.Signs.{inside}

-- One level, whose divisor is not 0.
pub bracket-some : (b n : ℕ) → (n ≡ 0 → ⊥) → writing (bytes "[" ++ (decimal (b / n) ++ bytes "]")) ≡ writing (bracket b n)
unfolding bracket
bracket-some b zero h = absurd (h refl)
bracket-some b (suc n) h = refl

-- The levels from a place on: none behind the last, else those behind it and then its own.
pub brackets-none : (l : List ℕ) (at size : ℕ) → length l ≡ 32 → 32 ≤ at → writing [] ≡ writing (brackets size (drop at l))
unfolding brackets
brackets-none l at size e h = let k : length l ≤ at = omega arith in rw (drop_of_length-le l k)

pub brackets-some : (l : List ℕ) (at size b : ℕ) → length l ≡ 32 → at < 32 → b ≡ get_or l at 0
    → writing (brackets b (drop (at + 1) l) ++ bracket b size) ≡ writing (brackets size (drop at l))
unfolding brackets
brackets-some l at size b e h f = let k : at < length l = omega arith in rw (add-one, drop-cons l at 0 k, f)

-- What a level is made of: the level below it, or what is given.
pub inside-level : (l : List ℕ) (left size at : ℕ) → left < at → get_or l (at - 1) 0 ≡ inside l left size at
unfolding inside
inside-level l left size at h = rw (lt-ltb left at h)

pub inside-last : (l : List ℕ) (left size at : ℕ) → at ≤ left → size ≡ inside l left size at
unfolding inside
inside-last l left size at h = rw (le-ltb left at h)

-- From the outermost level down: none of them, one more, and all.
module _ (l : List ℕ) (left size : ℕ) (e : length l ≡ 32) where
  pub brackets-start : writing [] ≡ writing (brackets (inside l left size 32) (drop 32 l))
  brackets-start = brackets-none l 32 _ e (omega arith)

  pub brackets-turn : (n b i : ℕ) → left < n → n ≤ 32 → b ≡ get_or l (n - 1) 0 → i ≡ inside l left size (n - 1)
      → writing (brackets (inside l left size n) (drop n l) ++ bracket b i) ≡ writing (brackets (inside l left size (n - 1)) (drop (n - 1) l))
  brackets-turn n b i h k f g =
      let m : n - 1 + 1 ≡ n = omega arith in
      let t : writing (brackets b (drop (n - 1 + 1) l) ++ bracket b i) ≡ writing (brackets i (drop (n - 1) l)) = brackets-some l (n - 1) i b e (omega arith) f in
      let u : writing (brackets b (drop n l) ++ bracket b i) ≡ writing (brackets i (drop (n - 1) l)) = rw m at t in
      let v : b ≡ inside l left size n = f ∙ inside-level l left size n h in
      rw (← v, ← g) u

  pub brackets-whole : (n : ℕ) → n ≤ left → drop n l ≡ drop left l → writing (brackets (inside l left size n) (drop n l)) ≡ writing (brackets size (drop left l))
  brackets-whole n h d = rw (← inside-last l left size n h, d)

  pub drop_past : 32 ≤ left → drop 32 l ≡ drop left l
  drop_past h =
      let a : length l ≤ 32 = omega arith in
      let b : length l ≤ left = omega arith in
      drop_of_length-le l a ∙ sym (drop_of_length-le l b)
