-- Laws of the turns: what a turn leaves, and that the turns suffice. Assumes nothing.
use Prim.Native.Nat.{ℕ, zero, suc, ◌+◌, ◌-◌, ◌≤◌, ◌<◌}
use native.Mathlib.Omega.{arith}
use mathlib.Core.Bool.{Bool, true, false, ◌&&◌, not}
use mathlib.Core.List.{List, [], ◌∷◌, ◌++◌}
use mathlib.Core.Path.{◌≡◌, refl, ap, sym, ◌∙◌}
use lib.Dec.{leb, ltb}
use lib.ListN.{length, drop, length-append, length-drop}
use borrow.Author.Tests.{lt-ltb}
use Rattle.wire.specs.Field.{pick}
use Rattle.sheet.specs.Command.{command_at}
use Rattle.sheet.specs.Sheet.{Fit, ahead, fit, Calls, calls_to, line_of, by_step, step_of, after_of, lines_from, lines_by, sheet_lines, begin}
use Rattle.sheet.specs.Printed.{Shown, shown, laid_out, Continues}
use Rattle.sheet.specs.declared.Printed.{Printed}
use Rattle.sheet.specs.declared.State.{State}
use Rattle.sheet.specs.declared.Step.{Step}
use Rattle.sheet.specs.declared.Step.TheVariants as step
use Rattle.sheet_printer.specs.Turns.{Told, told, turns, all_turns, AllTold, SomeTurns}

-- No more lines fit than there are, and no sheet has more lines than bytes.
fit-most : (room : ℕ) (ls : List (List ℕ)) → (fit room ls).lines ≤ length ls
unfolding fit
fit-most room [] = omega arith
fit-most room (l ∷ ls) = by (leb (length l) room) (fit-most (room - length l) ls)
  where
    by : (b : Bool) → (fit (room - length l) ls).lines ≤ length ls
        → (pick {A = Fit} b (ahead l 1 (fit (room - length l) ls)) (record { bytes = []; lines = 0; more = true })).lines ≤ length (l ∷ ls)
    by true h = omega arith
    by false h = omega arith

module _ (calls : Calls) (sheet : List ℕ) where
  from-most : (k : ℕ) (s : State) → length (lines_from calls sheet k s) ≤ k
  unfolding lines_from
  from-most zero s = omega arith
  from-most (suc k) s = by (step_of (command_at sheet s.at)) (line_of calls sheet s (command_at sheet s.at)) (lines_from calls sheet k (after_of s (command_at sheet s.at))) (from-most k (after_of s (command_at sheet s.at)))
    where
      by : (x : Step) (l : List ℕ) (ls : List (List ℕ)) → length ls ≤ k → length (by_step x l ls) ≤ suc k
      by step.Over l ls h = omega arith
      by step.Setting l ls h = omega arith
      by (step.Last b) l ls h = omega arith
      by step.Line l ls h = omega arith

pub sheet-most : (types ids sheet : List ℕ) → length (sheet_lines types ids sheet) ≤ length sheet
unfolding lines_by
sheet-most types ids sheet = from-most (calls_to types ids) sheet (length sheet) begin

-- The bytes that a turn says lie in the buffer.
pub bytes-within : (buf : List ℕ) (f : Fit) {out : List ℕ} {p : Printed} → shown out p ≡ laid_out buf f → p.bytes ≤ length out
unfolding laid_out
bytes-within buf f {out} {p} e =
    let b : p.bytes ≡ length f.bytes = ap (λ (x : Shown). x.bytes) e in
    let o : out ≡ f.bytes ++ drop (length f.bytes) buf = ap (λ (x : Shown). x.buf) e in
    rw (o, b) (omega (arith, length-append f.bytes (drop (length f.bytes) buf)))

-- Where the turns are: those from here on are all of them, and there are enough.
pub record Turning (all : List (List ℕ)) (buf₀ buf : List ℕ) (skip : ℕ) : Type 0 where
  pub left : ℕ
  pub is : turns (suc left) all buf skip ≡ all_turns all buf₀
  pub enough : length all ≤ left + skip
  pub inside : skip ≤ length all
  pub sized : length buf ≡ length buf₀

pub turning-first : (all : List (List ℕ)) (buf : List ℕ) → Turning all buf buf 0
unfolding all_turns
turning-first all buf = record { left = length all; is = refl; enough = omega arith; inside = omega arith; sized = refl }

-- How many turns were made, each of which printed a line at least.
pub record Made (all : List (List ℕ)) (buf₀ buf : List ℕ) (skip : ℕ) : Type 0 where
  pub count : ℕ
  pub within : count ≤ skip
  pub is : (n : ℕ) → turns n all buf skip ≡ turns (count + n) all buf₀ 0

pub made-first : (all : List (List ℕ)) (buf : List ℕ) → Made all buf buf 0
made-first all buf = record { count = 0; within = omega arith; is = λ n. ap (λ t. turns t all buf 0) (omega arith) }

module _ (all : List (List ℕ)) {buf₀ buf : List ℕ} {skip : ℕ} (w : Turning all buf₀ buf skip) {out : List ℕ} {p : Printed} (e : shown out p ≡ laid_out buf (fit (length buf) (drop skip all))) (k : Continues all skip (length buf) (fit (length buf) (drop skip all))) where
  abbrev f : Fit
  f = fit (length buf) (drop skip all)

  more-is : f.more ≡ p.more
  unfolding laid_out
  more-is = sym (ap (λ (x : Shown). x.more) e)

  lines-is : f.lines ≡ p.lines
  unfolding laid_out
  lines-is = sym (ap (λ (x : Shown). x.lines) e)

  one : (n : ℕ) → turns (suc n) all buf skip ≡ pick (p.more && ltb 0 p.lines) (turns n all out (skip + p.lines)) (told out (skip + p.lines))
  unfolding turns laid_out
  one n = rw (more-is, lines-is, ← ap (λ (x : Shown). x.buf) e)

  pub turn_inside : skip + p.lines ≤ length all
  turn_inside = let i = w.inside in let l = lines-is in omega (arith, fit-most (length buf) (drop skip all), length-drop skip all)

  -- A turn that leaves lines and has printed some is followed by another.
  module _ (m : p.more ≡ true) (h : 0 < p.lines) where
    pub turn-less : length all - (skip + p.lines) < length all - skip
    turn-less = let i = turn_inside in omega arith

    pub turning-next : length out ≡ length buf → Turning all buf₀ out (skip + p.lines)
    turning-next s =
        let g : skip + p.lines < length all = rw (← lines-is) (k.left (more-is ∙ m)) in
        let a = w.enough in
        let z : suc (w.left - 1) ≡ w.left = omega arith in
        record {
          left = w.left - 1;
          is = rw z (sym (one w.left ∙ go) ∙ w.is);
          enough = omega arith;
          inside = omega arith;
          sized = s ∙ w.sized;
        }
      where
        go : pick (p.more && ltb 0 p.lines) (turns w.left all out (skip + p.lines)) (told out (skip + p.lines)) ≡ turns w.left all out (skip + p.lines)
        go = rw (m, lt-ltb 0 p.lines h)

    pub made-next : Made all buf₀ buf skip → Made all buf₀ out (skip + p.lines)
    made-next d =
        let y = d.within in
        record {
          count = suc d.count;
          within = omega arith;
          is = λ n. sym (one n ∙ on n) ∙ d.is (suc n) ∙ ap (λ t. turns t all buf₀ 0) (omega arith);
        }
      where
        on : (n : ℕ) → pick (p.more && ltb 0 p.lines) (turns n all out (skip + p.lines)) (told out (skip + p.lines)) ≡ turns n all out (skip + p.lines)
        on n = rw (m, lt-ltb 0 p.lines h)

  -- A turn that leaves no line is the last.
  module _ (m : p.more ≡ false) where
    pub told-all : told out (skip + p.lines) ≡ all_turns all buf₀
    told-all = sym (one w.left ∙ rw m) ∙ w.is

    pub finished-all : AllTold all (length buf₀) (skip + p.lines)
    unfolding fit
    finished-all =
        let g : drop (skip + p.lines) all ≡ [] = rw (← lines-is) (k.over (more-is ∙ m)) in
        let i = turn_inside in
        record { over = rw g; whole = λ _. omega (arith, length-drop (skip + p.lines) all, ap length g) }

  -- So is one that has no room for a line.
  module _ (m : p.more ≡ true) (h : p.lines ≡ 0) where
    pub told-stuck : told out (skip + p.lines) ≡ all_turns all buf₀
    told-stuck = sym (one w.left ∙ rw (m, h)) ∙ w.is

    pub finished-stuck : AllTold all (length buf₀) (skip + p.lines)
    finished-stuck =
        let z : skip + p.lines ≡ skip = omega arith in
        record {
          over = rw (z, ← w.sized) (lines-is ∙ h);
          whole = λ r. let o : 0 < f.lines = k.some (more-is ∙ m) (rw w.sized r) in let l = lines-is in absurd (omega arith);
        }

-- A turn whose lines can't be printed leaves the buffer as one more turn.
pub stopped : (all : List (List ℕ)) {buf₀ buf out : List ℕ} {skip : ℕ} → Turning all buf₀ buf skip → Made all buf₀ buf skip → out ≡ (laid_out buf (fit (length buf) (drop skip all))).buf → SomeTurns all buf₀ out
unfolding turns
stopped all {buf₀} {buf} {out} {skip} w d e =
    let i = w.inside in
    let y = d.within in
    let f : Fit = fit (length buf) (drop skip all) in
    let z : d.count + 1 ≡ suc d.count = omega arith in
    let one : turns 1 all buf skip ≡ turns (suc d.count) all buf₀ 0 = d.is 1 ∙ ap (λ t. turns t all buf₀ 0) z in
    let q : d.count ≤ length all = omega arith in
    (d.count, q, e ∙ sym (same (f.more && ltb 0 f.lines) _ (laid_out buf f).buf) ∙ ap (λ (x : Told). x.buf) one)
  where
    same : (b : Bool) (s : ℕ) (l : List ℕ) → (pick b (told l s) (told l s)).buf ≡ l
    same true s l = refl
    same false s l = refl

-- A test that was negated.
pub said : (b : Bool) {c : Bool} → not b ≡ c → b ≡ not c
said true e = ap not e
said false e = ap not e
