-- Laws of the bytes of a stream and of the buffer that they are laid in. Assumes nothing.
use Prim.Native.Nat.{ℕ, zero, suc, ◌+◌, ◌*◌, ◌-◌, ◌≤◌, ◌<◌, min}
use native.Mathlib.Nat.{le_refl, suc-mul, div-add-mod', mod-lt}
use native.Mathlib.Omega.{arith}
use mathlib.Core.Path.{◌≡◌, ap, sym, ◌∙◌}
use mathlib.Core.Bool.{true, not}
use mathlib.Core.List.{List, ◌++◌, append_assoc, append-nil}
use lib.ListN.{length, take, drop, length-append, length-drop, take-append-drop}
use lib.Seq.{drop_at, drop-drop, length-take-le}
use Rattle.std.proofs.lemmas.Bool.Decides.{nat_tests}
use Rattle.std.proofs.lemmas.Grind.{common_steps}
use lib.Dec.{eqb}
use borrow.Author.Tests.{leb-true, ltb-true}
use Rattle.std.proofs.Common.{Ok}
use Rattle.msf.proofs.Laws.{both_good, held, tested}
use Rattle.msf.proofs.DirectoryLaws.{listed_more, listed_grows, each_inside, block_within, filled_tells}
use Rattle.msf.specs.declared.damage.Damage.TheVariants.{StreamBlock}
use Rattle.msf.specs.Superblock.{blocks_for, inside, superblock_checked}
use Rattle.msf.specs.Directory.{place, number_at, streams, size_of, blocks_of, listed, map_checked, filled, lists_checked, stream_checked, streams_checked, directory_checked}
use Rattle.msf.specs.Contents.{bytes_from, checked, in_front}
use Rattle.msf.specs.Inner.{Sound, Listed}
use Rattle.msf.specs.declared.superblock.Superblock.{Superblock}

-- A part laid over a buffer at a place: what stands up to its end, and behind it.
module _ (buf part : List ℕ) (at n : ℕ) (e : length part ≡ n) (h : at + n ≤ length buf) where
  pub front_laid : take (at + n) (take at buf ++ (part ++ drop (at + n) buf)) ≡ take at buf ++ part
  front_laid = grind (arith, common_steps)

  pub rest_laid : drop (at + n) (take at buf ++ (part ++ drop (at + n) buf)) ≡ drop (at + n) buf
  rest_laid =
      let m : length (take at buf ++ part) ≡ at + n = grind (arith, common_steps) in
      rw (← append_assoc (take at buf) part (drop (at + n) buf)) (drop_at (take at buf ++ part) (drop (at + n) buf) (at + n) m)

-- The bytes of one block, and of those that are left.
pub bytes_step : (file : List ℕ) (s : Superblock) (j end at size : ℕ) → j < end
    → bytes_from file s (end - j) j (size - at)
    ≡ take (min s.size (size - at)) (drop (number_at file s j * s.size) file) ++ bytes_from file s (end - (j + 1)) (j + 1) (size - (at + min s.size (size - at)))
unfolding bytes_from
bytes_step file s j end at size h =
    let k : end - j ≡ suc (end - (j + 1)) = omega arith in
    let m : size - (at + min s.size (size - at)) ≡ size - at - s.size = omega arith in
    rw (k, m)

-- A block that is listed lies in the file.
pub listed_within : (file : List ℕ) (s : Superblock) (first count j : ℕ) → Sound file s → Listed file s first count → first ≤ j → j < first + count → number_at file s j * s.size + s.size ≤ length file
listed_within file s first count j z l h k = block_within file s z (number_at file s j) (l.each j h k)

-- A turn of the loop that copies blocks: the front goes on to make all of the bytes, and the rest is as it was.
pub block_copied : (file buf old all part : List ℕ) (s : Superblock) (j end at size start n : ℕ) → j < end → at + n ≤ length buf
    → start ≡ number_at file s j * s.size → start + s.size ≤ length file → n ≡ min s.size (size - at) → part ≡ take (start + n - start) (drop start file)
    → take at buf ++ bytes_from file s (end - j) j (size - at) ≡ all → drop at buf ≡ drop at old
    → (take (at + n) (take at buf ++ (part ++ drop (at + n - at) (drop at buf))) ++ bytes_from file s (end - (j + 1)) (j + 1) (size - (at + n)) ≡ all)
    × (drop (at + n) (take at buf ++ (part ++ drop (at + n - at) (drop at buf))) ≡ drop (at + n) old)
block_copied file buf old all part s j end at size start n l h b w e p front rest =
    let k : start + n - start ≡ n = omega arith in
    let m : at + n - at ≡ n = omega arith in
    let q : part ≡ take n (drop start file) = rw k at p in
    let long : length part ≡ n = rw q (length-take-le n (drop start file) (rw (length-drop start file) (omega arith))) in
    rw (m, drop-drop n at buf) (
      rw (front_laid buf part at n long h, append_assoc, q, e, b, ← bytes_step file s j end at size l) front,
      rest_laid buf part at n long h ∙ sym (drop-drop n at buf) ∙ ap (drop n) rest ∙ drop-drop n at old,
    )

-- The end of that loop.
pub all_copied : (file buf old all : List ℕ) (s : Superblock) (j end at left : ℕ) → end ≤ j → at ≤ length buf
    → take at buf ++ bytes_from file s (end - j) j left ≡ all → drop at buf ≡ drop at old → buf ≡ in_front all old
unfolding bytes_from
all_copied file buf old all s j end at left l h front rest =
    let k : end - j ≡ 0 = omega arith in
    let e = rw (k, append-nil) at front in
    let m : length all ≡ at = rw (← e) (length-take-le at buf h) in
    rw (m, ← e, ← rest) (sym (take-append-drop at buf))

-- As many bytes as the stream has, where its blocks are enough.
module _ (file : List ℕ) (s : Superblock) (z : Sound file s) where
  pub bytes_length : (n j left : ℕ) → Listed file s j n → left ≤ n * s.size → length (bytes_from file s n j left) ≡ left
  unfolding bytes_from
  bytes_length zero j left i h = omega arith
  bytes_length (suc n) j left i h =
      let w = listed_within file s j (suc n) j z i (le_refl j) (omega arith) in
      let a : length (take (min s.size left) (drop (number_at file s j * s.size) file)) ≡ min s.size left =
      length-take-le (min s.size left) (drop (number_at file s j * s.size) file) (rw (length-drop (number_at file s j * s.size) file) (omega arith)) in
      let r = bytes_length n (j + 1) (left - s.size) (record { each = λ k p q. i.each k (omega arith) (omega arith) }) (omega (arith, suc-mul n s.size)) in
      rw (length-append, a, r) (omega arith)

-- A stream has room in its blocks.
pub enough : (size n : ℕ) → 0 < size → n ≤ blocks_for size n * size
unfolding blocks_for
enough size n h = omega (arith, div-add-mod' (n + (size - 1)) size, mod-lt (n + (size - 1)) h)

-- What the tests leave of a stream: there is room for it, and its blocks are listed inside.
pub record Ready (file : List ℕ) (s : Superblock) (number room : ℕ) : Type 0 where
  pub fits : size_of file s number ≤ room
  pub few : 4 * (1 + streams file s + listed file s number + blocks_for s.size (size_of file s number)) ≤ s.directory
  pub blocks : Listed file s (1 + streams file s + listed file s number) (blocks_for s.size (size_of file s number))

real : (size n : ℕ) → not (eqb n 0xFFFF_FFFF) ≡ true → blocks_of size n ≡ blocks_for size n
unfolding blocks_of
real size n e = grind (arith, nat_tests)

each_listed : (file : List ℕ) (s : Superblock) → lists_checked file s ≡ Ok tt
    → (k : ℕ) → 1 + streams file s ≤ k → k < 1 + streams file s + listed file s (streams file s) → inside s (number_at file s k) ≡ true
unfolding lists_checked number_at
each_listed file s e = each_inside file s (place file s) StreamBlock (listed file s (streams file s)) (1 + streams file s) e

pub ready : (file : List ℕ) (s : Superblock) (number room : ℕ) → directory_checked file s number room ≡ Ok tt → Ready file s number room
unfolding directory_checked streams_checked stream_checked
ready file s number room e =
    let full = both_good (filled file s) _ (both_good (map_checked file s) _ e).1 in
    let lists = both_good (lists_checked file s) _ full.1 in
    let asked = tested _ _ _ lists.1 in
    let last = tested _ _ _ asked.1 in
    let l : number < streams file s = ltb-true number (streams file s) asked.0 in
    let r = real s.size (size_of file s number) last.0 in
    let grows = listed_grows file s (number + 1) (streams file s) (omega arith) in
    let end : listed file s number + blocks_for s.size (size_of file s number) ≤ listed file s (streams file s) = omega (arith, grows, listed_more file s number, r) in
    record {
      fits = leb-true (size_of file s number) room (held _ _ last.1);
      few = omega (arith, end, filled_tells file s full.0);
      blocks = record { each = λ k p q. each_listed file s lists.0 k (omega arith) (omega arith) };
    }

-- The tests of a container and then of a stream are good where each is.
pub directory_good : (file : List ℕ) (s : Superblock) (number room : ℕ) → checked file s number room ≡ Ok tt → directory_checked file s number room ≡ Ok tt
unfolding checked
directory_good file s number room e = (both_good (superblock_checked file s) (directory_checked file s number room) e).1
