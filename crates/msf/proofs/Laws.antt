-- Laws of checks and of the numbers of a superblock. Assumes nothing.
use Prim.Native.Nat.{ℕ, zero, suc, ◌+◌, ◌*◌, ◌-◌, ◌/◌, ◌%◌, ◌≤◌, ◌<◌, min}
use native.Mathlib.Nat.{mod-lt, add-mul}
use native.Mathlib.Numerals.{add-one}
use native.Mathlib.Omega.{arith}
use mathlib.Core.Path.{◌≡◌, refl, ◌∙◌}
use mathlib.Core.Bool.{Bool, true, false}
use mathlib.Core.List.{List}
use lib.ListN.{length, get_or, drop}
use lib.Seq.{drop-cons}
use borrow.Author.Tests.{leb-true, eq-eqb, ne_eqb}
use Rattle.std.proofs.Common.{Ok, Err}
use Rattle.std.proofs.lemmas.Bool.Decides.{nat_tests}
use Rattle.std.proofs.lemmas.Nat.{div-mul-add, div-add-mod'}
use Rattle.msf.specs.Damage.{Checked, test, ◌⨾◌}
use Rattle.msf.specs.Superblock.{same_from, is_block_size, is_directory_size, blocks_for, numbers_checked, superblock_checked, file_magic}
use Rattle.msf.specs.Inner.{Sound}
use Rattle.msf.specs.declared.damage.Damage.{Damage}
use Rattle.msf.specs.declared.damage.Damage.TheVariants.{Magic}
use Rattle.msf.specs.declared.superblock.Superblock.{Superblock}

-- One step after another is good where each is, and a test is where it holds.
pub both_good : (a b : Checked) → (a ⨾ b) ≡ Ok tt → (a ≡ Ok tt) × (b ≡ Ok tt)
both_good (Ok u) b e = (refl, e)
both_good (Err d) b e = cc

pub held : (b : Bool) (d : Damage) → test b d ≡ Ok tt → b ≡ true
held true d e = refl
held false d e = cc

pub tested : (b : Bool) (d : Damage) (rest : Checked) → (test b d ⨾ rest) ≡ Ok tt → (b ≡ true) × (rest ≡ Ok tt)
tested true d rest e = (refl, e)
tested false d rest e = cc

-- The library's quotient that is rounded up, by the two cases of what is left.
rounded : (q r size : ℕ) → r < size → q + min 1 r ≡ (q * size + r + (size - 1)) / size
rounded q zero size h =
    let e : q * size + 0 + (size - 1) ≡ q * size + (size - 1) = omega arith in
    rw (e, div-mul-add q size (size - 1) (omega arith)) (omega arith)
rounded q (suc r) size h =
    let e : q * size + suc r + (size - 1) ≡ (q + 1) * size + r = omega (arith, add-mul q 1 size) in
    rw (e, div-mul-add (q + 1) size r (omega arith)) (omega arith)

pub rounded_up : (size n : ℕ) → 0 < size → n / size + min 1 (n % size) ≡ blocks_for size n
unfolding blocks_for
rounded_up size n h = rounded (n / size) (n % size) size (mod-lt n h) ∙ (rw (div-add-mod' n size))

-- Looking for a byte that differs: it is here, or it is looked for one place on, or there is none.
module _ (magic file : List ℕ) (i : ℕ) where
  pub differs : i < length magic → (get_or file i 0 ≡ get_or magic i 0 → ⊥) → same_from (drop i magic) file i ≡ Err (Magic i)
  unfolding same_from
  differs h e = rw (drop-cons magic i 0 h, ne_eqb _ _ e)

  pub agrees : i < length magic → get_or file i 0 ≡ get_or magic i 0 → same_from (drop i magic) file i ≡ same_from (drop (i + 1) magic) file (i + 1)
  unfolding same_from
  agrees h e = rw (drop-cons magic i 0 h, eq-eqb _ _ e, add-one)

-- What holds of each block size.
module _ (n : ℕ) (e : is_block_size n ≡ true) where
  pub size_least : 512 ≤ n
  unfolding is_block_size
  size_least = grind (arith, nat_tests)

  size_most : n ≤ 32768
  unfolding is_block_size
  size_most = grind (arith, nat_tests)

  size_numbers : 4 * (n / 4) ≡ n
  unfolding is_block_size
  size_numbers = grind (arith, nat_tests)

-- What the tests of a superblock leave.
whole_numbers : (size n : ℕ) → is_directory_size size n ≡ true → 4 * (n / 4) ≡ n
unfolding is_directory_size
whole_numbers size n e = grind (arith, nat_tests)

pub sound : (file : List ℕ) (s : Superblock) → superblock_checked file s ≡ Ok tt → Sound file s
unfolding superblock_checked numbers_checked
sound file s e =
    let numbers = (both_good (same_from file_magic file 0) _ (tested _ _ _ e).1).1 in
    let size = tested _ _ _ numbers in
    let cut = tested _ _ _ (tested _ _ _ size.1).1 in
    let directory = tested _ _ _ cut.1 in
    record {
      least = size_least s.size size.0;
      most = size_most s.size size.0;
      numbers = size_numbers s.size size.0;
      within = leb-true (s.blocks * s.size) (length file) cut.0;
      whole = whole_numbers s.size s.directory directory.0;
    }
