-- Laws of the numbers of a directory. Assumes nothing.
use Prim.Native.Nat.{ℕ, zero, suc, ◌+◌, ◌*◌, ◌-◌, ◌/◌, ◌≤◌, ◌<◌}
use native.Mathlib.Nat.{le_refl, eq-or-lt_of_le, mul-le-mul_right, suc-mul}
use native.Mathlib.Numerals.{add-one}
use native.Mathlib.Omega.{arith}
use mathlib.Core.Path.{◌≡◌, subst}
use mathlib.Core.Bool.{true, false}
use mathlib.Core.List.{List}
use mathlib.Core.Logic.{⊎_elim}
use lib.ListN.{length}
use Rattle.std.proofs.Common.{Ok, Err}
use Rattle.std.proofs.lemmas.Bool.Decides.{nat_tests}
use Rattle.msf.proofs.Laws.{tested}
use Rattle.msf.specs.Superblock.{word, inside}
use Rattle.msf.specs.Directory.{place, streams, size_of, blocks_of, listed, all_inside, filled, lists_checked}
use Rattle.msf.specs.Inner.{Sound}
use Rattle.msf.specs.declared.damage.Damage.{Damage}
use Rattle.msf.specs.declared.damage.Damage.TheVariants.{StreamBlock}
use Rattle.msf.specs.declared.superblock.Superblock.{Superblock}

-- The blocks of one stream more.
pub listed_more : (file : List ℕ) (s : Superblock) (i : ℕ) → listed file s (i + 1) ≡ listed file s i + blocks_of s.size (size_of file s i)
unfolding listed
listed_more file s i = rw add-one

-- Looking for a number that is not inside: it is here, or it is looked for one place on, or there is none.
module _ (file : List ℕ) (s : Superblock) (at : ℕ → ℕ) (damage : ℕ → Damage) where
  pub outside_here : (end j : ℕ) → j < end → inside s (word file (at j)) ≡ false → all_inside file s at damage (end - j) j ≡ Err (damage (at j))
  unfolding all_inside
  outside_here end j h e =
      let k : end - j ≡ suc (end - (j + 1)) = omega arith in
      rw (k, e)

  pub inside_here : (end j : ℕ) → j < end → inside s (word file (at j)) ≡ true
      → all_inside file s at damage (end - j) j ≡ all_inside file s at damage (end - (j + 1)) (j + 1)
  unfolding all_inside
  inside_here end j h e =
      let k : end - j ≡ suc (end - (j + 1)) = omega arith in
      rw (k, e)

  pub none_left : (end j : ℕ) → end ≤ j → all_inside file s at damage (end - j) j ≡ Ok tt
  unfolding all_inside
  none_left end j h =
      let k : end - j ≡ 0 = omega arith in
      rw k

  -- Where none was found each is inside.
  pub each_inside : (n j : ℕ) → all_inside file s at damage n j ≡ Ok tt → (k : ℕ) → j ≤ k → k < j + n → inside s (word file (at k)) ≡ true
  unfolding all_inside
  each_inside zero j e k h l = absurd (omega arith)
  each_inside (suc n) j e k h l =
      let p = tested _ _ _ e in
      ⊎_elim
      (λ q. subst (λ (m : ℕ). inside s (word file (at m)) ≡ true) q p.0)
      (λ q. each_inside n (j + 1) p.1 k (omega arith) (omega arith))
      (eq-or-lt_of_le h)

pub ruleset inside_steps = (outside_here, inside_here, none_left)

-- A block inside lies in the file.
pub block_within : (file : List ℕ) (s : Superblock) → Sound file s → (n : ℕ) → inside s n ≡ true → n * s.size + s.size ≤ length file
unfolding inside
block_within file s z n e =
    let l : n < s.blocks = grind (arith, nat_tests) in
    omega (arith, z.within, suc-mul n s.size, mul-le-mul_right s.size l)

-- The number of streams, their sizes and their lists make the directory, where it is filled.
pub filled_tells : (file : List ℕ) (s : Superblock) → filled file s ≡ Ok tt → 4 * (1 + streams file s + listed file s (streams file s)) ≡ s.directory
unfolding filled
filled_tells file s e = grind (arith, nat_tests)

-- The lists are what is left of a filled directory.
pub lists_left : (file : List ℕ) (s : Superblock) → filled file s ≡ Ok tt
    → lists_checked file s ≡ all_inside file s (place file s) StreamBlock (s.directory / 4 - (1 + streams file s)) (1 + streams file s)
unfolding lists_checked
lists_left file s e =
    let t = filled_tells file s e in
    let k : s.directory / 4 - (1 + streams file s) ≡ listed file s (streams file s) = omega arith in
    rw k

-- More streams list no fewer blocks.
pub listed_grows : (file : List ℕ) (s : Superblock) (i n : ℕ) → i ≤ n → listed file s i ≤ listed file s n
unfolding listed
listed_grows file s zero zero h = le_refl 0
listed_grows file s (suc i) zero h = absurd (omega arith)
listed_grows file s i (suc n) h =
    ⊎_elim
    (λ e. subst (λ (m : ℕ). listed file s i ≤ listed file s m) e (le_refl (listed file s i)))
    (λ l. let r = listed_grows file s i n (omega arith) in omega arith)
    (eq-or-lt_of_le h)
