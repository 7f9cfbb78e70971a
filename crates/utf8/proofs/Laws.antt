-- The laws of the functions here: ranges, parts and runs. Assumes nothing.
use Rattle.std.proofs.Common.{◌≡◌, refl, ◌∙◌, ap, ℕ, zero, suc, ◌+◌, ◌-◌, ◌*◌, ◌/◌, ◌<◌, ◌≤◌, Bool, true, false, ◌&&◌, ◌||◌, List, [], ◌∷◌, ◌++◌, Some, None, Ok, Err, cond, length, take, drop, get_or, eqb, ltb, leb, add-one, zero-add, append_assoc, arith}
use Rattle.std.proofs.lemmas.List.{take_rest}
use Rattle.std.proofs.Math.Bool.{and-false}
use Rattle.std.specs.Prelude.{Option, Result, MatchResult}
use Rattle.std.specs.List.{list_all, fold, prefix_len, zip}
use Rattle.std.specs.Simd.{first_chunks}
use lib.ListN.{length-drop, drop_of_length-le}
use lib.Seq.{drop-cons, take-add, drop-drop}
use borrow.Author.Tests.{le-leb, lt-leb, ltb-true}
use Rattle.wire.specs.Field.{pick}
use Rattle.utf8.specs.declared.Range.{Range}
use Rattle.utf8.specs.Utf8.{◌‥◌, Row, is_in, behind_in, behind, fitting, is_whole, reach, replacement, shown}
use Rattle.utf8.specs.Parts.{part_len, part_at, run_past, run}
use Rattle.utf8.proofs.Shown.{never, both, behind-low, shown-whole, shown-broken}

-- The rows of the table. A byte from l to h is in no row that ends below l or begins above h.
abbrev outside : ℕ → ℕ → Row → Bool
outside l h r = ltb r.first.high l || ltb h r.first.low

not-in : (l h b : ℕ) → l ≤ b → b ≤ h → (r : Row) → outside l h r ≡ true → is_in r.first b ≡ false
unfolding is_in
not-in l h b m n r e = by (ltb r.first.high l) (ltb h r.first.low) refl refl e
  where
    by : (t u : Bool) → ltb r.first.high l ≡ t → ltb h r.first.low ≡ u → (t || u) ≡ true → (leb r.first.low b && leb b r.first.high) ≡ false
    by true u f g e = let k = ltb-true _ _ f in let o : r.first.high < b = omega arith in rw (lt-leb b r.first.high o, and-false) refl
    by false true f g e = let k = ltb-true _ _ g in let o : b < r.first.low = omega arith in rw (lt-leb r.first.low b o) refl
    by false false f g e = never e

pub no_row : (l h b : ℕ) → l ≤ b → b ≤ h → (rows : List Row) → list_all (outside l h) rows ≡ true → None ≡ behind_in rows b
unfolding behind_in
no_row l h b m n [] e = refl
no_row l h b m n (r ∷ rows) e = let k = both (outside l h r) (list_all (outside l h) rows) e in rw (not-in l h b m n r k.0) (no_row l h b m n rows k.1)

-- One in the first range of a row is in that row, where the rows before it have none of that range.
abbrev row_at : List Row → ℕ → Row
row_at rows i = get_or rows i (record { first = 1 ‥ 0; behind = [] })

pub of_row : (rows : List Row) (i b : ℕ) → list_all (outside (row_at rows i).first.low (row_at rows i).first.high) (take i rows) ≡ true → (row_at rows i).first.low ≤ b → b ≤ (row_at rows i).first.high
    → Some (row_at rows i).behind ≡ behind_in rows b
unfolding behind_in is_in
of_row [] i b e m n = absurd (omega arith)
of_row (r ∷ rows) zero b e m n = rw (le-leb r.first.low b m, le-leb b r.first.high n) refl
of_row (r ∷ rows) (suc i) b e m n =
    let q = row_at rows i in
    let k = both (outside q.first.low q.first.high r) (list_all (outside q.first.low q.first.high) (take i rows)) e in
    rw (not-in q.first.low q.first.high b m n r k.0) (of_row rows i b k.1 m n)

-- Bytes and ranges, taken side by side as long as each byte stands in its range.
pub fit-prefix : (rs : List Range) (s : List ℕ) → prefix_len (λ p. leb p.0.low p.1 && leb p.1 p.0.high) (zip rs s) ≡ fitting rs s
unfolding fitting is_in
fit-prefix [] s = refl
fit-prefix (r ∷ rs) [] = refl
fit-prefix (r ∷ rs) (b ∷ s) = by (leb r.low b && leb b r.high) (fit-prefix rs s)
  where
    by : (t : Bool) → prefix_len (λ p. leb p.0.low p.1 && leb p.1 p.0.high) (zip rs s) ≡ fitting rs s
        → cond t (1 + prefix_len (λ p. leb p.0.low p.1 && leb p.1 p.0.high) (zip rs s)) 0 ≡ pick t (suc (fitting rs s)) 0
    by true h = omega (arith, h)
    by false h = refl

-- The part at a place: of an ASCII byte, of one that begins no sequence, and of any other.
module _ (s : List ℕ) (at : ℕ) where
  pub part-ascii : get_or s at 0 < 128 → part_at s at ≡ Ok 1
  unfolding is_whole reach fitting
  part-ascii l = rw (behind-low (get_or s at 0) l) refl

  pub part-none : behind (get_or s at 0) ≡ None → part_at s at ≡ Err 1
  unfolding is_whole reach
  part-none e = rw e refl

  pub part-some : (rs : List Range) (n : ℕ) → behind (get_or s at 0) ≡ Some rs → n ≡ fitting rs (take (length s - (at + 1)) (drop (at + 1) s)) → part_at s at ≡ pick (eqb n (length rs)) (Ok (n + 1)) (Err (n + 1))
  unfolding is_whole reach
  part-some rs n e f = let g : n ≡ fitting rs (drop (suc at) s) = rw (take_rest, add-one at) at f in rw (e, ← g, add-one n) refl

-- What is taken of a part, whole or not, is its length.
pub part-length : (s : List ℕ) (at n : ℕ) (r : Result ℕ ℕ) → r ≡ part_at s at → MatchResult r (λ m. n ≡ m) (λ m. n ≡ m) → n ≡ part_len s at
part-length s at n r e h = by (is_whole (behind (get_or s at 0)) (drop (suc at) s)) (rw e at h)
  where
    by : (t : Bool) → MatchResult (pick t (Ok (part_len s at)) (Err (part_len s at))) (λ m. n ≡ m) (λ m. n ≡ m) → n ≡ part_len s at
    by true h = h
    by false h = h

-- Runs: past a part that is a sequence, up to one that is not, and to the end.
pub fitting-le : (rs : List Range) (s : List ℕ) → fitting rs s ≤ length s
unfolding fitting
fitting-le [] s = omega arith
fitting-le (r ∷ rs) [] = omega arith
fitting-le (r ∷ rs) (b ∷ bs) = by (is_in r b) (fitting-le rs bs)
  where
    by : (t : Bool) → fitting rs bs ≤ length bs → pick t (suc (fitting rs bs)) 0 ≤ suc (length bs)
    by true h = omega arith
    by false h = omega arith

reach-le : (o : Option (List Range)) (s : List ℕ) → reach o s ≤ length s
unfolding reach
reach-le None s = omega arith
reach-le (Some rs) s = fitting-le rs s

run_past_lem : (n : ℕ) (s : List ℕ) → n ≤ length s → run_past n s ≡ n + run (drop n s)
unfolding run_past run
run_past_lem zero s h = omega arith
run_past_lem (suc n) [] h = absurd (omega arith)
run_past_lem (suc n) (b ∷ bs) h = ap suc (run_past_lem n bs (omega arith)) ∙ omega arith

run-nil : run [] ≡ 0
unfolding run run_past
run-nil = refl

run-whole : (b : ℕ) (bs : List ℕ) → is_whole (behind b) bs ≡ true → run (b ∷ bs) ≡ suc (reach (behind b) bs + run (drop (reach (behind b) bs) bs))
unfolding run run_past
run-whole b bs e = rw e (ap suc (run_past_lem (reach (behind b) bs) bs (reach-le (behind b) bs)))

run-broken : (b : ℕ) (bs : List ℕ) → is_whole (behind b) bs ≡ false → run (b ∷ bs) ≡ 0
unfolding run run_past
run-broken b bs e = rw e refl

pub run_none : (s : List ℕ) (at : ℕ) → length s ≤ at → run (drop at s) ≡ 0
run_none s at h = rw (drop_of_length-le s h) run-nil

-- ASCII bytes are sequences, one by one.
run-one : (b : ℕ) (bs : List ℕ) → b < 128 → run (b ∷ bs) ≡ suc (run bs)
unfolding is_whole reach fitting
run-one b bs l = let e = behind-low b l in run-whole b bs (rw e refl) ∙ rw (e, zero-add) refl

run-ascii : (n : ℕ) (s : List ℕ) → n ≤ length s → list_all (λ b. ltb b 128) (take n s) ≡ true → run s ≡ n + run (drop n s)
run-ascii zero s h e = rw zero-add refl
run-ascii (suc n) [] h e = absurd (omega arith)
run-ascii (suc n) (b ∷ s) h e =
    let k = both (ltb b 128) (list_all (λ b. ltb b 128) (take n s)) e in
    omega (arith, run-one b s (ltb-true _ _ k.0), run-ascii n s (omega arith) k.1)

-- All tests at once are each of them.
pub all-at-once : (s : List ℕ) (t : Bool) → fold (λ t b. t && ltb b 128) t s ≡ (t && list_all (λ b. ltb b 128) s)
all-at-once [] true = refl
all-at-once [] false = refl
all-at-once (b ∷ s) true = all-at-once s (ltb b 128)
all-at-once (b ∷ s) false = all-at-once s false

-- A run goes past eight bytes at a time as long as all of them are ASCII.
pub run-eights : (k : ℕ) (s : List ℕ) → 8 * k ≤ length s
    → let n = prefix_len (list_all (λ b. ltb b 128)) (first_chunks 8 k s) in run s ≡ 8 * n + run (drop (8 * n) s)
run-eights zero s h = rw zero-add refl
run-eights (suc k) s h = by (list_all (λ b. ltb b 128) (take 8 s)) refl (run-eights k (drop 8 s) (omega (arith, length-drop 8 s)))
  where
    n : ℕ
    n = prefix_len (list_all (λ b. ltb b 128)) (first_chunks 8 k (drop 8 s))

    by : (t : Bool) → list_all (λ b. ltb b 128) (take 8 s) ≡ t → run (drop 8 s) ≡ 8 * n + run (drop (8 * n) (drop 8 s)) → run s ≡ 8 * cond t (1 + n) 0 + run (drop (8 * cond t (1 + n) 0) s)
    by true e g =
        let f : run s ≡ 8 + run (drop 8 s) = run-ascii 8 s (omega arith) e in
        let y : 8 * (1 + n) ≡ 8 + 8 * n = omega arith in
        rw (y, ← drop-drop (8 * n) 8 s) (omega (arith, f, g))
    by false e g = rw zero-add refl

pub eights_skipped : (s : List ℕ) (from n : ℕ) (rest : List ℕ) (eights : List (List ℕ)) → rest ≡ drop from s → eights ≡ first_chunks 8 (length rest / 8) rest → n ≡ prefix_len (list_all (λ b. ltb b 128)) eights
    → (from ≤ from + 8 * n) × (from + run (drop from s) ≡ (from + 8 * n) + run (drop (from + 8 * n) s))
eights_skipped s from n rest eights e f g =
    let h : n ≡ prefix_len (list_all (λ b. ltb b 128)) (first_chunks 8 (length rest / 8) rest) = rw f at g in
    let k : run rest ≡ 8 * n + run (drop (8 * n) rest) = rw (← h) at (run-eights (length rest / 8) rest (omega arith)) in
    (omega arith, rw (← drop-drop (8 * n) from s, ← e) (omega (arith, k)))

-- A part lies inside; a run goes on behind one that is a sequence, and ends before another.
module _ (s : List ℕ) (at : ℕ) (h : at < length s) where
  pub part-inside : (0 < part_len s at) × (at + part_len s at ≤ length s)
  part-inside = (omega arith, omega (arith, reach-le (behind (get_or s at 0)) (drop (suc at) s), length-drop (suc at) s))

  run-whole-at : is_whole (behind (get_or s at 0)) (drop (suc at) s) ≡ true → run (drop at s) ≡ part_len s at + run (drop (at + part_len s at) s)
  run-whole-at e =
      let n = reach (behind (get_or s at 0)) (drop (suc at) s) in
      let y : at + suc n ≡ suc at + n = omega arith in
      rw (drop-cons s at 0 h, run-whole (get_or s at 0) (drop (suc at) s) e, drop-drop n (suc at) s, y) (omega arith)

  pub run-past_part : (n : ℕ) → Ok n ≡ part_at s at → (at + n ≤ length s) × (run (drop at s) ≡ n + run (drop (at + n) s))
  run-past_part n f = by (is_whole (behind (get_or s at 0)) (drop (suc at) s)) refl f
    where
      by : (t : Bool) → is_whole (behind (get_or s at 0)) (drop (suc at) s) ≡ t → Ok n ≡ pick t (Ok (part_len s at)) (Err (part_len s at)) → (at + n ≤ length s) × (run (drop at s) ≡ n + run (drop (at + n) s))
      by true e f = let k : part_len s at ≡ n = cc in rw (← k) (part-inside.1, run-whole-at e)
      by false e f = cc

  pub run-at_part : (n : ℕ) → Err n ≡ part_at s at → run (drop at s) ≡ 0
  run-at_part n f = by (is_whole (behind (get_or s at 0)) (drop (suc at) s)) refl f
    where
      by : (t : Bool) → is_whole (behind (get_or s at 0)) (drop (suc at) s) ≡ t → Err n ≡ pick t (Ok (part_len s at)) (Err (part_len s at)) → run (drop at s) ≡ 0
      by true e f = cc
      by false e f = rw (drop-cons s at 0 h) (run-broken (get_or s at 0) (drop (suc at) s) e)

-- What the end of a run tells: the bytes up to it are shown as they are, and behind it stands no sequence.
abbrev Stops : List ℕ → Type 0
Stops [] = Unit {0}
Stops (b ∷ bs) = is_whole (behind b) bs ≡ false

record RunTells (s : List ℕ) : Type 0 where
  kept : shown s ≡ take (run s) s ++ shown (drop (run s) s)
  within : run s ≤ length s
  stops : Stops (drop (run s) s)

tells-nil : RunTells []
tells-nil = record { kept = rw run-nil refl; within = rw run-nil (omega arith); stops = rw run-nil tt }

tells-next : (n : ℕ) (s : List ℕ) → length s ≤ suc n → ((t : List ℕ) → length t ≤ n → RunTells t) → RunTells s
tells-next n [] h rest = tells-nil
tells-next n (b ∷ bs) h rest = by (is_whole (behind b) bs) refl
  where
    by : (t : Bool) → is_whole (behind b) bs ≡ t → RunTells (b ∷ bs)
    by false e = record { kept = rw (run-broken b bs e) refl; within = rw (run-broken b bs e) (omega arith); stops = rw (run-broken b bs e) e }
    by true e =
        let k = reach (behind b) bs in
        let l : length (drop k bs) ≡ length bs - k = length-drop k bs in
        let m : k ≤ length bs = reach-le (behind b) bs in
        let g = rest (drop k bs) (omega arith) in
        let w = run (drop k bs) in
        let j : w ≤ length (drop k bs) = g.within in
        record {
          kept =
              shown-whole b bs e
              ∙ ap (λ (x : List ℕ). (b ∷ take k bs) ++ x) g.kept
              ∙ rw (run-whole b bs e, take-add k w bs, drop-drop w k bs, append_assoc) refl;
          within = rw (run-whole b bs e) (omega arith);
          stops = rw (run-whole b bs e, ← drop-drop w k bs) g.stops;
        }

run-tells : (n : ℕ) (s : List ℕ) → length s ≤ n → RunTells s
run-tells zero [] h = tells-nil
run-tells zero (b ∷ bs) h = absurd (omega arith)
run-tells (suc n) s h = tells-next n s h (λ t k. run-tells n t k)

-- A run from a place on, and the part behind it.
module _ (s : List ℕ) (at end : ℕ) (e : end ≡ at + run (drop at s)) where
  tells : RunTells (drop at s)
  tells = run-tells (length (drop at s)) (drop at s) (omega arith)

  pub run-within : at ≤ length s → end ≤ length s
  run-within h = let k = tells.within in let l : length (drop at s) ≡ length s - at = length-drop at s in omega (arith, e)

  pub run-kept : shown (drop at s) ≡ take (end - at) (drop at s) ++ shown (drop end s)
  run-kept = let k : end - at ≡ run (drop at s) = omega (arith, e) in rw (k, e, ← drop-drop (run (drop at s)) at s) tells.kept

  pub run-stops : end < length s → part_at s end ≡ Err (part_len s end)
  run-stops h =
      let k : Stops (drop end s) = rw (e, ← drop-drop (run (drop at s)) at s) tells.stops in
      let l : Stops (get_or s end 0 ∷ drop (suc end) s) = rw (drop-cons s end 0 h) at k in
      rw l refl

  pub run-part : (n : ℕ) → end < length s → Err n ≡ part_at s end → n ≡ part_len s end
  run-part n h f = let k = run-stops h in cc

  pub run-behind : end < length s → shown (drop end s) ≡ replacement ++ shown (drop (end + part_len s end) s)
  run-behind h =
      let n = reach (behind (get_or s end 0)) (drop (suc end) s) in
      let y : end + suc n ≡ suc end + n = omega arith in
      let k : Stops (drop end s) = rw (e, ← drop-drop (run (drop at s)) at s) tells.stops in
      let l : Stops (get_or s end 0 ∷ drop (suc end) s) = rw (drop-cons s end 0 h) at k in
      rw (drop-cons s end 0 h, y, ← drop-drop n (suc end) s) (shown-broken (get_or s end 0) (drop (suc end) s) l)
