-- Laws of sheets: commands, lines in a buffer, and the lines that fit. Assumes nothing.
use Rattle.std.specs.Prelude.{Result, Ok, Err, Option, Some, None}
use Prim.Native.Nat.{ℕ, zero, suc, ◌+◌, ◌-◌, ◌≤◌, ◌<◌}
use mathlib.Core.Path.{◌≡◌, refl, ap, ap₂, sym, ◌∙◌}
use mathlib.Core.Bool.{Bool, true, false}
use mathlib.Core.List.{List, [], ◌∷◌, ◌++◌, append_assoc, append-nil}
use lib.Dec.{leb, ltb, eqb}
use lib.ListN.{length, take, drop, get_or, set, length-append, length-drop, length-take}
use lib.Seq.{sets-eq, drop-nil, drop-drop, take-append_seam, take-append-le, take-append-add, drop-append-le, drop-append-add, drop-set-add, take-suc-set, take_at, drop_at, length-take-le}
use native.Mathlib.Nat.{zero-add, add-zero, sub-zero}
use native.Mathlib.Omega.{arith}
use native.Mathlib.Decide.{dec_lt, dec_le}
use borrow.Author.Tests.{lt-ltb, le-ltb, lt-leb, le-leb}
use Rattle.wire.specs.Field.{pick}
use Rattle.wire.specs.Text.{bytes}
use Rattle.interpreter.specs.Trace as trace
use Rattle.interpreter.specs.Trace.{Trace, tr, done, missing, refused, halted, again, deep, long, unfinished, count}
use Rattle.rules.specs.Call as call
use Rattle.pen.specs.Page.{page, Wrote, writing, stop_of}
use Rattle.pen.specs.declared.Pen.{Pen}
use Rattle.pen.proofs.Laws.{ran-fits, Ran}
use Rattle.checked_calls.specs.Answers.{Left, of_answer, given, started, laid, text_of}
use Rattle.checked_calls.proofs.AnswerLaws.{text-taken}
use Rattle.wire.proofs.Laws.{field_short}
use Rattle.wire.specs.Name.{zero_from}
use Rattle.wire.specs.declared.name.Name.{Name}
use Rattle.streams.specs.declared.refusal.Refusal.{Refusal}
use Rattle.rules.specs.Text.{decimal, hex, numeral, digit}
use Rattle.rules.specs.Record.{name_at}
use Rattle.streams.specs.declared.refusal.Refusal.TheVariants.{UnknownCommand, Missing, CircularTypeDefinition, TooManyOpen, ChainTooLong, NoRoom}
use Rattle.rules.specs.Call.{function_outcome, id_outcome, type_outcome}
use Rattle.checked_calls.specs.Checks.{of_size_answer, function_over, id_over, type_over}
use Rattle.rules.specs.Places.{Near}
use Rattle.checked_calls.specs.Kept.{Kept}
use Rattle.checked_calls.proofs.CallsLaws.{function-over, id-over, type-over, size-over}
use Rattle.sheet.specs.Command.{command_at, command_by, given_name}
use Rattle.sheet.proofs.LinesLaws.{told-refused, refused-length, text-length, size-length, numeral-length}
use Rattle.sheet.specs.Line.{head, told_line, text_line, refused_line, outcome_line, size_line}
use Rattle.sheet.specs.declared.command.Command.{Command}
use Rattle.sheet.specs.declared.command.Command.TheVariants.{End, Flags, PointerSize, TypeText, TypeSize, IdText, FunctionText, Faulty}
use Rattle.sheet.specs.Sheet.{step_of, behind_of, after_of, answer_line, Calls, calls_to, calls_over, function_line, Fit, ahead, fit, line_of, by_step, lines_from, lines_by, sheet_lines, lines_over, sheet_fit, fit_over, begin}
use Rattle.sheet.specs.Printed.{Placed, placed, put_of, Shown, shown, laid_out, joined, Continues}
use Rattle.sheet.specs.declared.State.{State}
use Rattle.sheet.specs.declared.Step.{Step}
use Rattle.sheet.specs.declared.Step.TheVariants as step
use Rattle.sheet.specs.declared.Printed.{Printed}
use Rattle.streams.specs.Stream.{headed}
use Rattle.streams.specs.Stream.{stands}

-- A line at the start of a buffer, the rest as it was, and its length.
pub record Whole (buf l : List ℕ) (out : List ℕ) (n : ℕ) : Type 0 where
  pub length-is : n ≡ length l
  pub buffer-is : out ≡ l ++ drop (length l) buf

-- A line that was written from the start of a buffer that has room for it.
pub line-whole : {buf b l : List ℕ} {p q : Pen} → p ≡ started (length buf) → Wrote (page buf p) (writing l) (page b q) → length l ≤ length buf → Whole buf l b q.at
unfolding started stop_of
line-whole {buf} {b} {l} {p} {q} e w h =
    let v : Wrote (page buf (record { at = 0; tally = 0; limit = length buf; stop = 0; detail = 0 })) (writing l) (page b q) = rw (← e) w in
    let f = ran-fits buf (length buf) l done [] (count 0 0) b q h v in
    let r = f.1 f.0 in
    let k : 0 + length l ≤ length buf = omega arith in
    record { length-is = r.at; buffer-is = r.buffer ∙ (rw (sets-eq l buf 0 k, zero-add) refl) }

whole-taken : {buf l out : List ℕ} {n : ℕ} → Whole buf l out n → take n out ≡ l
whole-taken {buf} {l} w = rw (w.length-is, w.buffer-is) (take-append_seam l (drop (length l) buf))

pub whole-named : {buf l out : List ℕ} {n : ℕ} → Whole buf l out n → name_at out (record { start = 0; len = n }) ≡ l
unfolding name_at
whole-named w = whole-taken w

-- The line of a text call's answer is that of its outcome: what is told is the same, and the text is the start of the call's buffer, which stands in the line.
module _ (n : ℕ) (buf out : List ℕ) where
  value_room : (o : call.Outcome) → length (call.buffer_after buf o) ≡ length buf → (call.of_text o).value ≤ length buf
  unfolding call.of_text call.buffer_after
  value_room (call.text bs k) h = let l = length-append bs (drop (length bs) buf) in omega arith
  value_room (call.stopped f) h = omega arith

  module _ (o : call.Outcome) (a : (Result ℕ Refusal)) (e : given out a ≡ laid buf o) (h : length out ≡ length buf) where
    told_is : of_answer a ≡ call.of_text o
    unfolding laid
    told_is = ap (λ (r : Left). r.told) e

    left_is : out ≡ call.buffer_after buf o
    unfolding laid
    left_is = ap (λ (r : Left). r.buf) e

    pub answer-room : (of_answer a).value ≤ length buf
    answer-room = rw told_is (value_room o (ap length (sym left_is) ∙ h))

    pub answer-behind : (line rest : List ℕ) → 27 ≤ length line → answer_line n (drop 27 (take 27 line ++ (out ++ rest))) (of_answer a) ≡ outcome_line n o
    unfolding outcome_line answer_line
    answer-behind line rest i =
        let d : drop 27 (take 27 line ++ (out ++ rest)) ≡ out ++ rest = drop_at (take 27 line) (out ++ rest) 27 (length-take-le 27 line i) in
        let k = answer-room in
        let t : take (of_answer a).value (out ++ rest) ≡ take (of_answer a).value out = take-append-le (of_answer a).value out rest (omega arith) in
        let x : take (of_answer a).value out ≡ text_of o = rw (told_is, left_is) (text-taken buf o) in
        ap (λ (l : List ℕ). told_line n (of_answer a) (take (of_answer a).value l)) d ∙ ap (told_line n (of_answer a)) (t ∙ x) ∙ ap (λ r. told_line n r (text_of o)) told_is

-- What was printed so far, from the start of the buffer; the lines that are still to come, `n` of them passed: what was printed and what fits of the rest is
-- what fits of all.
pub record Pending (out₀ : List ℕ) (skip : ℕ) (all : List (List ℕ)) (out : List ℕ) (at : ℕ) (n : ℕ) (rest : List (List ℕ)) : Type 0 where
  pub bs : List ℕ
  pub so : Whole out₀ bs out at
  pub room : length bs ≤ length out₀
  pub is : ahead bs (n - skip) (fit (length out₀ - length bs) (drop (skip - n) rest)) ≡ fit (length out₀) (drop skip all)

true-false : true ≡ false → ⊥
true-false e = let z : ◌≡◌ {A = ℕ} 0 1 = ap (λ (b : Bool). pick b 0 1) e in absurd (omega arith)

abbrev inked : List ℕ → ℕ → List ℕ → List ℕ
inked buf at l = take at buf ++ (l ++ drop (at + length l) buf)

-- A number for where a page stands, and 0 for none.
abbrev seat : Placed → ℕ
seat p = go p.at
  where
    go : Option ℕ → ℕ
    go (Some n) = suc n
    go None = 0

put-passed : (buf : List ℕ) (at : ℕ) (b : Bool) (l : List ℕ) → b ≡ true → put_of buf at b l ≡ placed buf (Some at)
unfolding put_of
put-passed buf at b l e = rw e refl

put-stuck : (buf : List ℕ) (at : ℕ) (b : Bool) (l : List ℕ) → b ≡ false → leb (length l) (length buf - at) ≡ false → put_of buf at b l ≡ placed buf None
unfolding put_of
put-stuck buf at b l e f = rw (e, f) refl

put-inked : (buf : List ℕ) (at : ℕ) (b : Bool) (l : List ℕ) → b ≡ false → leb (length l) (length buf - at) ≡ true → put_of buf at b l ≡ placed (inked buf at l) (Some (at + length l))
unfolding put_of
put-inked buf at b l e f = rw (e, f) refl

-- a line without room
not-fits : (room : ℕ) (l : List ℕ) (rest : List (List ℕ)) (k : ℕ) → k ≡ 0 → leb (length l) room ≡ false
    → fit room (drop k (l ∷ rest)) ≡ record { bytes = []; lines = 0; more = true }
unfolding fit
not-fits room l rest k e f = rw (e, f) refl

-- a line with room
does-fit : (room : ℕ) (l : List ℕ) (rest : List (List ℕ)) (k : ℕ) → k ≡ 0 → leb (length l) room ≡ true
    → fit room (drop k (l ∷ rest)) ≡ ahead l 1 (fit (room - length l) rest)
unfolding fit
does-fit room l rest k e f = rw (e, f) refl

two-ahead : (a b : List ℕ) (m : ℕ) (f : Fit) → ahead a m (ahead b 1 f) ≡ ahead (a ++ b) (m + 1) f
two-ahead a b m f = let k : m + (1 + f.lines) ≡ (m + 1) + f.lines = omega arith in rw (append_assoc, k) refl

-- One line more behind what was printed.
inked-on : {out₀ bs out : List ℕ} {at : ℕ} (l : List ℕ) → Whole out₀ bs out at → length bs ≤ length out₀ → Whole out₀ (bs ++ l) (inked out at l) (at + length l)
inked-on {out₀} {bs} {out} {at} l w h =
    let n = length-append bs l in
    let t : take at out ≡ bs = whole-taken w in
    let d : drop (at + length l) out ≡ drop (length (bs ++ l)) out₀ =
    ap (λ k. drop (k + length l) out) w.length-is ∙ ap (drop (length bs + length l)) w.buffer-is ∙ drop-append-add bs (drop (length bs) out₀) (length l)
    ∙ drop-drop (length l) (length bs) out₀ ∙ ap (λ k. drop k out₀) (sym n) in
    record {
      length-is = ap (λ k. k + length l) w.length-is ∙ sym n;
      buffer-is = ap (λ (x : List ℕ). x ++ (l ++ drop (at + length l) out)) t ∙ ap (λ (x : List ℕ). bs ++ (l ++ x)) d ∙ sym (append_assoc bs l (drop (length (bs ++ l)) out₀));
    }

module _ (out₀ : List ℕ) (skip : ℕ) (all : List (List ℕ)) where
  pub pending-first : Pending out₀ skip all out₀ 0 0 all
  pending-first =
      let k : 0 - skip ≡ 0 = omega arith in
      record { bs = []; so = record { length-is = refl; buffer-is = refl }; room = omega arith; is = rw (k, sub-zero, sub-zero, zero-add) refl }

  pending-as : {out : List ℕ} {at : ℕ} {n m : ℕ} {rest : List (List ℕ)} → n ≡ m → Pending out₀ skip all out at n rest → Pending out₀ skip all out at m rest
  pending-as e g = rw e at g

  module _ {out : List ℕ} {at : ℕ} {n : ℕ} where
    pub pending-at : {rest : List (List ℕ)} → Pending out₀ skip all out at n rest → at ≤ length out
    pending-at g = rw (g.so.buffer-is, g.so.length-is, length-append g.bs (drop (length g.bs) out₀)) (omega arith)

    -- At the end: nothing more fits, or there is nothing more.
    ended : {rest : List (List ℕ)} (m : Bool) (r : Printed) (g : Pending out₀ skip all out at n rest)
        → fit (length out₀ - length g.bs) (drop (skip - n) rest) ≡ record { bytes = []; lines = 0; more = m }
        → (r.bytes ≡ at) × ((r.lines ≡ n - skip) × (r.more ≡ m)) → shown out r ≡ laid_out out₀ (fit (length out₀) (drop skip all))
    unfolding laid_out
    ended {rest} m r g e f =
        let k : ahead g.bs (n - skip) (record { bytes = []; lines = 0; more = m }) ≡ fit (length out₀) (drop skip all) = ap (ahead g.bs (n - skip)) (sym e) ∙ g.is in
        rw (← k, f.0, f.1.0, f.1.1, g.so.buffer-is, g.so.length-is, append-nil, add-zero) refl

    -- no line is left
    pub all_shown : {r : Printed} → Pending out₀ skip all out at n [] → (r.bytes ≡ at) × ((r.lines ≡ n - skip) × (r.more ≡ false))
        → shown out r ≡ laid_out out₀ (fit (length out₀) (drop skip all))
    unfolding fit
    all_shown {r} g f = ended false r g (rw (drop-nil (skip - n)) refl) f

    module _ {l : List ℕ} {rest : List (List ℕ)} (g : Pending out₀ skip all out at n (l ∷ rest)) where
      -- the room on the page is what is left of the buffer
      room-is : length out - at ≡ length out₀ - length g.bs
      room-is =
          let k = length-append g.bs (drop (length g.bs) out₀) in
          let m = length-drop (length g.bs) out₀ in
          rw (g.so.buffer-is, g.so.length-is, k, m) (omega (arith, g.room))

      -- the next line does not fit
      pub line-stuck : {r : Printed} {out₁ : List ℕ} {o : Option ℕ} → o ≡ None → placed out₁ o ≡ put_of out at (ltb n skip) l
          → (r.bytes ≡ at) × ((r.lines ≡ n - skip) × (r.more ≡ true)) → shown out₁ r ≡ laid_out out₀ (fit (length out₀) (drop skip all))
      line-stuck {r} {out₁} {o} z e f = by (dec_lt n skip) (dec_le (length l) (length out - at))
        where
          by : Dec (n < skip) → Dec (length l ≤ length out - at) → shown out₁ r ≡ laid_out out₀ (fit (length out₀) (drop skip all))
          by (yes h) d = absurd (let x : 0 ≡ suc at = ap seat (rw z at e ∙ put-passed out at (ltb n skip) l (lt-ltb n skip h)) in omega arith)
          by (no h) (yes d) =
              absurd (let x : 0 ≡ suc (at + length l) = ap seat (rw z at e ∙ put-inked out at (ltb n skip) l (le-ltb n skip (omega arith)) (le-leb (length l) (length out - at) d)) in omega arith)
          by (no h) (no d) =
              let b : out₁ ≡ out = ap (λ (y : Placed). y.buf) (e ∙ put-stuck out at (ltb n skip) l (le-ltb n skip (omega arith)) (lt-leb (length l) (length out - at) (omega arith))) in
              rw b (ended true r g (not-fits (length out₀ - length g.bs) l rest (skip - n) (omega arith) (rw (← room-is) (lt-leb (length l) (length out - at) (omega arith)))) f)

      -- the next line is passed over, or stands on the page
      pub line-placed : {out₁ : List ℕ} {o : Option ℕ} {q : ℕ} → o ≡ Some q → placed out₁ o ≡ put_of out at (ltb n skip) l → Pending out₀ skip all out₁ q (n + 1) rest
      line-placed {out₁} {o} {q} z e = by (dec_lt n skip) (dec_le (length l) (length out - at))
        where
          by : Dec (n < skip) → Dec (length l ≤ length out - at) → Pending out₀ skip all out₁ q (n + 1) rest
          by (yes h) d =
              let x : placed out₁ (Some q) ≡ placed out (Some at) = rw z at e ∙ put-passed out at (ltb n skip) l (lt-ltb n skip h) in
              let a : out₁ ≡ out = ap (λ (y : Placed). y.buf) x in
              let s : suc q ≡ suc at = ap seat x in
              let c : q ≡ at = omega arith in
              let b : skip - n ≡ suc (skip - (n + 1)) = omega arith in
              let m : n - skip ≡ (n + 1) - skip = omega arith in
              record { bs = g.bs; so = rw (a, c) g.so; room = g.room; is = rw (b, m) at g.is }
          by (no h) (no d) =
              absurd (let x : suc q ≡ 0 = ap seat (rw z at e ∙ put-stuck out at (ltb n skip) l (le-ltb n skip (omega arith)) (lt-leb (length l) (length out - at) (omega arith))) in omega arith)
          by (no h) (yes d) =
              let w : placed out₁ (Some q) ≡ placed (inked out at l) (Some (at + length l)) = rw z at e ∙ put-inked out at (ltb n skip) l (le-ltb n skip (omega arith)) (le-leb (length l) (length out - at) d) in
              let a : out₁ ≡ inked out at l = ap (λ (y : Placed). y.buf) w in
              let s : suc q ≡ suc (at + length l) = ap seat w in
              let c : q ≡ at + length l = omega arith in
              let r = room-is in
              let k = length-append g.bs l in
              let x = does-fit (length out₀ - length g.bs) l rest (skip - n) (omega arith) (rw (← r) (le-leb (length l) (length out - at) d)) in
              let y = ap (ahead g.bs (n - skip)) (sym x) ∙ g.is in
              let z = sym (two-ahead g.bs l (n - skip) (fit ((length out₀ - length g.bs) - length l) rest)) ∙ y in
              let v : (n - skip) + 1 ≡ (n + 1) - skip = omega arith in
              let u : (length out₀ - length g.bs) - length l ≡ length out₀ - length (g.bs ++ l) = rw k (omega arith) in
              let o : skip - (n + 1) ≡ 0 = omega arith in
              record { bs = g.bs ++ l; so = rw (a, c) (inked-on l g.so g.room); room = rw k (omega (arith, g.room)); is = rw o (rw (v, u) at z) }

-- how many lines a step counts
abbrev counts : Step → ℕ
counts step.Over = 1
counts step.Setting = 0
counts (step.Last b) = 1
counts step.Line = 1

after-lines : (s : State) (c : Command) → (after_of s c).lines ≡ s.lines + counts (step_of c)
unfolding after_of step_of
after-lines s End = refl
after-lines s (Flags n) = sym (add-zero s.lines)
after-lines s (PointerSize n) = sym (add-zero s.lines)
after-lines s (TypeText n) = refl
after-lines s (TypeSize n) = refl
after-lines s (IdText n) = refl
after-lines s (FunctionText n) = refl
after-lines s (Faulty n) = refl

-- each command has two bytes at least
pub after-at : (s : State) (c : Command) → s.at + 2 ≤ (after_of s c).at
unfolding after_of
after-at s End = omega arith
after-at s (Flags n) = omega arith
after-at s (PointerSize n) = omega arith
after-at s (TypeText n) = omega arith
after-at s (TypeSize n) = omega arith
after-at s (IdText n) = omega arith
after-at s (FunctionText n) = omega arith
after-at s (Faulty n) = omega arith

abbrev runs : Step → ℕ
runs step.Over = 0
runs step.Setting = 1
runs (step.Last b) = 1
runs step.Line = 1

-- a command that does something starts inside the sheet
awake : (sheet : List ℕ) (at : ℕ) → 1 ≤ runs (step_of (command_at sheet at)) → at < length sheet
unfolding command_at step_of
awake sheet at h = by (dec_le (at + 1) (length sheet))
  where
    by : Dec (at + 1 ≤ length sheet) → at < length sheet
    by (yes k) = omega arith
    by (no k) =
        absurd
        (let e : End ≡ command_at sheet at = field_short 1 sheet at (command_by sheet (at + 1)) End (omega arith) in
        let z : 0 ≡ runs (step_of (command_at sheet at)) = ap (λ c. runs (step_of c)) e in
        omega arith)

-- The run of a sheet so far: the lines to come are those from its state on.
pub record Going (k : Calls) (sheet out₀ : List ℕ) (skip : ℕ) (out : List ℕ) (at : ℕ) (s : State) : Type 0 where
  pub left : ℕ
  pub pending : Pending out₀ skip (lines_by k sheet) out at s.lines (lines_from k sheet left s)
  pub enough : length sheet ≤ left + s.at
  pub low : s.lines ≤ s.at
  pub short : length sheet < 9223372036854775808

same-put : (buf : List ℕ) (at : ℕ) (x : Bool) (l : List ℕ) → at ≤ length buf → length (put_of buf at x l).buf ≡ length buf
unfolding put_of
same-put buf at x l h = by x (dec_le (length l) (length buf - at))
  where
    by : (x : Bool) → Dec (length l ≤ length buf - at)
        → length (pick x (placed buf (Some at)) (pick (leb (length l) (length buf - at)) (placed (inked buf at l) (Some (at + length l))) (placed buf None))).buf ≡ length buf
    by true d = refl
    by false (yes d) =
        rw (le-leb (length l) (length buf - at) d)
        (let i = length-append (take at buf) (l ++ drop (at + length l) buf) in
        let j = length-append l (drop (at + length l) buf) in
        let m = length-take-le at buf h in
        let n = length-drop (at + length l) buf in
        omega arith)
    by false (no d) = rw (lt-leb (length l) (length buf - at) (omega arith)) refl

pending-length : {out₀ out : List ℕ} {skip n : ℕ} {all rest : List (List ℕ)} {at : ℕ} → Pending out₀ skip all out at n rest → length out ≡ length out₀
pending-length {out₀} g =
    let m = length-drop (length g.bs) out₀ in
    rw (g.so.buffer-is, length-append g.bs (drop (length g.bs) out₀), m) (omega (arith, g.room))

module _ (k : Calls) (sheet out₀ : List ℕ) (skip : ℕ) where
  pub going-length : {out : List ℕ} {at : ℕ} {s : State} → Going k sheet out₀ skip out at s → length out ≡ length out₀
  going-length g = pending-length g.pending

  pub going-at : {out : List ℕ} {at : ℕ} {s : State} → Going k sheet out₀ skip out at s → at ≤ length out
  going-at g = pending-at out₀ skip (lines_by k sheet) g.pending

  pub put-length : {out out₁ : List ℕ} {at : ℕ} {s : State} {o : Option ℕ} (x : Bool) (l : List ℕ) → Going k sheet out₀ skip out at s
      → placed out₁ o ≡ put_of out at x l → length out₁ ≡ length out₀
  put-length {out} {out₁} {at} x l g e = ap (λ (y : Placed). length y.buf) e ∙ same-put out at x l (going-at g) ∙ going-length g

  pub going-first : length sheet < 9223372036854775808 → Going k sheet out₀ skip out₀ 0 begin
  unfolding lines_by
  going-first h = record { short = h; left = length sheet; pending = pending-first out₀ skip _; enough = omega arith; low = omega arith }

  module _ {out : List ℕ} {at : ℕ} {s : State} {c : Command} {r : Step} (g : Going k sheet out₀ skip out at s) (e : c ≡ command_at sheet s.at) (f : r ≡ step_of c) where
    one : (n : ℕ) → lines_from k sheet (suc n) s ≡ by_step r (line_of k sheet s c) (lines_from k sheet n (after_of s c))
    unfolding lines_from
    one n = rw (f, e) refl

    inside : 1 ≤ runs r → s.at < length sheet
    inside h = awake sheet s.at (let z : runs r ≡ runs (step_of (command_at sheet s.at)) = ap runs (f ∙ ap step_of e) in omega arith)

    -- some commands are left
    lefter : 1 ≤ runs r → g.left ≡ suc (g.left - 1)
    lefter h = let i = inside h in omega (arith, g.enough)

    come : 1 ≤ runs r → Pending out₀ skip (lines_by k sheet) out at s.lines (by_step r (line_of k sheet s c) (lines_from k sheet (g.left - 1) (after_of s c)))
    come h =
        let m : lines_from k sheet g.left s ≡ _ = ap (λ n. lines_from k sheet n s) (lefter h) ∙ one (g.left - 1) in
        rw m at g.pending

    over : (n : ℕ) → r ≡ step.Over → lines_from k sheet n s ≡ []
    unfolding lines_from
    over zero h = refl
    over (suc n) h = one n ∙ ap (λ x. by_step x (line_of k sheet s c) (lines_from k sheet n (after_of s c))) h

    pub going-over : {d : Printed} → r ≡ step.Over → (d.bytes ≡ at) × ((d.lines ≡ s.lines - skip) × (d.more ≡ false))
        → shown out d ≡ laid_out out₀ (fit (length out₀) (drop skip (lines_by k sheet)))
    going-over h x = all_shown out₀ skip (lines_by k sheet) (rw (over g.left h) at g.pending) x

    lines_after : (after_of s c).lines ≡ s.lines + counts r
    lines_after = after-lines s c ∙ ap (λ x. s.lines + counts x) (sym f)

    pub inside-set : r ≡ step.Setting → s.at < length sheet
    inside-set h = inside (rw h (omega arith))

    pub inside-last : {b : ℕ} → r ≡ step.Last b → s.at < length sheet
    inside-last h = inside (rw h (omega arith))

    pub inside-line : r ≡ step.Line → s.at < length sheet
    inside-line h = inside (rw h (omega arith))

    -- the next place is further on
    further : {s₁ : State} → 1 ≤ runs r → s₁ ≡ after_of s c → length sheet - s₁.at < length sheet - s.at
    further h i = rw i (let m = after-at s c in let l = inside h in omega arith)

    pub less-set : {s₁ : State} → r ≡ step.Setting → s₁ ≡ after_of s c → length sheet - s₁.at < length sheet - s.at
    less-set h i = further (rw h (omega arith)) i

    pub less-line : {s₁ : State} → r ≡ step.Line → s₁ ≡ after_of s c → length sheet - s₁.at < length sheet - s.at
    less-line h i = further (rw h (omega arith)) i

    -- a setting
    set-goes : r ≡ step.Setting → Going k sheet out₀ skip out at (after_of s c)
    set-goes h =
        let i : 1 ≤ runs r = rw h (omega arith) in
        let n : s.lines ≡ (after_of s c).lines = sym (lines_after ∙ ap (λ x. s.lines + counts x) h ∙ add-zero s.lines) in
        let a = after-at s c in
        let l = lefter i in
        record {
          left = g.left - 1;
          pending = pending-as out₀ skip (lines_by k sheet) n (rw h at (come i));
          enough = omega (arith, g.enough);
          low = omega (arith, g.low);
          short = g.short;
        }

    pub going-set : {s₁ : State} → s₁ ≡ after_of s c → r ≡ step.Setting → Going k sheet out₀ skip out at s₁
    going-set i h = rw i (set-goes h)

    -- a line that was passed over or stands on the page
    line-goes : {out₁ : List ℕ} {o : Option ℕ} {q : ℕ} → r ≡ step.Line → o ≡ Some q → placed out₁ o ≡ put_of out at (ltb s.lines skip) (line_of k sheet s c)
        → Going k sheet out₀ skip out₁ q (after_of s c)
    line-goes h z x =
        let i : 1 ≤ runs r = rw h (omega arith) in
        let n : s.lines + 1 ≡ (after_of s c).lines = sym (lines_after ∙ ap (λ x. s.lines + counts x) h) in
        let a = after-at s c in
        let l = lefter i in
        record {
          left = g.left - 1;
          pending = pending-as out₀ skip (lines_by k sheet) n (line-placed out₀ skip (lines_by k sheet) (rw h at (come i)) z x);
          enough = omega (arith, g.enough);
          low = omega (arith, g.low);
          short = g.short;
        }

    pub going-line : {s₁ : State} {out₁ : List ℕ} {o : Option ℕ} {q : ℕ} → s₁ ≡ after_of s c → r ≡ step.Line → o ≡ Some q
        → placed out₁ o ≡ put_of out at (ltb s.lines skip) (line_of k sheet s c) → Going k sheet out₀ skip out₁ q s₁
    going-line i h z x = rw i (line-goes h z x)

    -- a line without room
    pub line-full : {out₁ : List ℕ} {o : Option ℕ} {d : Printed} → r ≡ step.Line → o ≡ None → placed out₁ o ≡ put_of out at (ltb s.lines skip) (line_of k sheet s c)
        → (d.bytes ≡ at) × ((d.lines ≡ s.lines - skip) × (d.more ≡ true)) → shown out₁ d ≡ laid_out out₀ (fit (length out₀) (drop skip (lines_by k sheet)))
    line-full h z x y = line-stuck out₀ skip (lines_by k sheet) (rw h at (come (rw h (omega arith)))) z x y

    -- the line of a faulty command, which is the last
    module _ {b : ℕ} (h : r ≡ step.Last b) where
      last-come : Pending out₀ skip (lines_by k sheet) out at s.lines (line_of k sheet s c ∷ [])
      last-come = rw h at (come (rw h (omega arith)))

      pub going-last : {out₁ : List ℕ} {o : Option ℕ} {q : ℕ} {d : Printed} → o ≡ Some q → placed out₁ o ≡ put_of out at (ltb s.lines skip) (line_of k sheet s c)
          → (d.bytes ≡ q) × ((d.lines ≡ (s.lines + 1) - skip) × (d.more ≡ false)) → shown out₁ d ≡ laid_out out₀ (fit (length out₀) (drop skip (lines_by k sheet)))
      going-last z x y = all_shown out₀ skip (lines_by k sheet) (line-placed out₀ skip (lines_by k sheet) last-come z x) y

      pub last-full : {out₁ : List ℕ} {o : Option ℕ} {d : Printed} → o ≡ None → placed out₁ o ≡ put_of out at (ltb s.lines skip) (line_of k sheet s c)
          → (d.bytes ≡ at) × ((d.lines ≡ s.lines - skip) × (d.more ≡ true)) → shown out₁ d ≡ laid_out out₀ (fit (length out₀) (drop skip (lines_by k sheet)))
      last-full z x y = line-stuck out₀ skip (lines_by k sheet) last-come z x y

-- The fields before a text or a size, and the line that they make with it.
decimal-zero : decimal 0 ≡ bytes "0"
unfolding decimal numeral digit
decimal-zero = refl

hex-zero : hex 0 ≡ bytes "0"
unfolding hex numeral digit
hex-zero = refl

text-line : (n : ℕ) (bs : List ℕ) → ((decimal n ++ bytes " 0 0x0 ") ++ bs) ++ bytes "\n" ≡ text_line n bs
unfolding text_line told_line head
text-line n bs = rw (decimal-zero, hex-zero, append_assoc, append_assoc) (rw append_assoc refl)

pub head-placed : (line digits fields : List ℕ) (r : ℕ) {w : List ℕ} → length line ≡ 4124 → length digits ≡ 20 → length fields ≡ 7 → r ≤ 20 → drop r digits ≡ w
    → drop r (take 20 (digits ++ drop 20 line) ++ (fields ++ drop 7 (drop 20 (digits ++ drop 20 line)))) ≡ (w ++ fields) ++ drop 27 line
head-placed line digits fields r {w} h d f i e =
    let t : take 20 (digits ++ drop 20 line) ≡ digits = take_at digits (drop 20 line) 20 d in
    let u : drop 20 (digits ++ drop 20 line) ≡ drop 20 line = drop_at digits (drop 20 line) 20 d in
    let v : drop 7 (drop 20 line) ≡ drop 27 line = drop-drop 7 20 line in
    rw (t, u, v) (drop-append-le r digits (fields ++ drop 27 line) (omega arith) ∙ ap (λ (x : List ℕ). x ++ (fields ++ drop 27 line)) e ∙ sym (append_assoc w fields (drop 27 line)))

pub text-placed : (line headed : List ℕ) (number at n : ℕ) → length line ≡ 4124 → length headed ≡ 4124 → at ≤ 20 → n ≤ 4096
    → drop at headed ≡ (decimal number ++ bytes " 0 0x0 ") ++ drop 27 line
    → name_at (set headed (27 + n) 10) (record { start = at; len = ((27 + n) + 1) - at }) ≡ text_line number (take n (drop 27 line))
unfolding name_at
text-placed line headed number at n h i j m e =
    let H = decimal number ++ bytes " 0 0x0 " in
    let Y = drop 27 line in
    let a : length headed - at ≡ length H + (length line - 27) = sym (length-drop at headed) ∙ ap length e ∙ length-append H Y ∙ ap (λ x. length H + x) (length-drop 27 line) in
    let b : 27 + n ≡ at + (length H + n) = omega arith in
    let c : ((27 + n) + 1) - at ≡ suc (length H + n) = omega arith in
    let x : drop at (set headed (27 + n) 10) ≡ set (H ++ Y) (length H + n) 10 =
    ap (λ i. drop at (set headed i 10)) b ∙ drop-set-add at headed (length H + n) 10 ∙ ap (λ (l : List ℕ). set l (length H + n) 10) e in
    let l : length H + n < length (H ++ Y) = let p = length-append H Y in let q = length-drop 27 line in omega arith in
    let y : take (suc (length H + n)) (set (H ++ Y) (length H + n) 10) ≡ take (length H + n) (H ++ Y) ++ (10 ∷ []) = take-suc-set (H ++ Y) (length H + n) 10 l in
    let z : take (length H + n) (H ++ Y) ≡ H ++ take n Y = take-append-add H Y n in
    ap (λ k. take k (drop at (set headed (27 + n) 10))) c ∙ ap (take (suc (length H + n))) x ∙ y ∙ ap (λ (k : List ℕ). k ++ (10 ∷ [])) z ∙ text-line number (take n Y)

-- The line of a text, and of a size, by the answer.
module _ (number : ℕ) (line : List ℕ) {l : List ℕ} where
  pub text-said : (a : (Result ℕ Refusal)) {n : ℕ} → a ≡ Ok n → l ≡ text_line number (take n (drop 27 line)) → l ≡ answer_line number (drop 27 line) (of_answer a)
  unfolding answer_line of_answer text_line told_line
  text-said a e w = rw e w

  pub refusal-said : (a : (Result ℕ Refusal)) {f : Refusal} → a ≡ Err f → l ≡ refused_line number f → l ≡ answer_line number (drop 27 line) (of_answer a)
  unfolding answer_line of_answer refused_line
  refusal-said a e w = rw e w

size-told : (number : ℕ) (a : (Result ℕ Refusal)) {n : ℕ} → a ≡ Ok n → text_line number (decimal n) ≡ size_line number (of_size_answer a)
unfolding size_line of_size_answer text_line told_line
size-told number a e = rw e refl

pub size-refused : (number : ℕ) {l : List ℕ} (a : (Result ℕ Refusal)) {f : Refusal} → a ≡ Err f → l ≡ refused_line number f → l ≡ size_line number (of_size_answer a)
unfolding size_line of_size_answer
size-refused number a {f} e w = rw (e, told-refused number f (decimal 0)) w

-- the digits of a size stand behind place 27
pub size-said : (number : ℕ) (line out rest : List ℕ) (a : (Result ℕ Refusal)) {l buf : List ℕ} {n at : ℕ} → a ≡ Ok n → 27 ≤ length line → Whole buf (decimal n) out at
    → l ≡ text_line number (take at (drop 27 (take 27 line ++ (out ++ rest)))) → l ≡ size_line number (of_size_answer a)
size-said number line out rest a {buf = buf} {n = n} {at = at} e h w f =
    let d : drop 27 (take 27 line ++ (out ++ rest)) ≡ out ++ rest = drop_at (take 27 line) (out ++ rest) 27 (length-take-le 27 line h) in
    let i : at ≤ length out = rw (w.length-is, w.buffer-is, length-append (decimal n) (drop (length (decimal n)) buf)) (omega arith) in
    f ∙ ap (text_line number) (ap (take at) d ∙ take-append-le at out rest i ∙ whole-taken w) ∙ size-told number a e

pub answer-low : (a : (Result ℕ Refusal)) {n m : ℕ} → a ≡ Ok n → (of_answer a).value ≤ m → n ≤ m
unfolding of_answer
answer-low a e h = rw e at h

pub digits_low : (n : ℕ) → length (decimal n) ≤ 20
unfolding decimal
digits_low n = numeral-length 10 20 n

-- A line has room in a buffer of so many bytes.
pub refused-room : (n : ℕ) (f : Refusal) {m : ℕ} → 53 ≤ m → length (refused_line n f) ≤ m
refused-room n f h = let k = refused-length n f in omega arith

pub size_room : (n k : ℕ) {m : ℕ} → 74 ≤ m → length (text_line n (decimal k)) ≤ m
size_room n k h = let l = size-length n k in omega arith

pub text-room : (n : ℕ) (bs : List ℕ) {k m : ℕ} → length bs ≤ k → k + 54 ≤ m → length (text_line n bs) ≤ m
text-room n bs h i = let l = text-length n bs in omega arith

end_after : (n : ℕ) (s : List ℕ) (at : ℕ) → at ≤ zero_from n s at
unfolding zero_from
end_after zero s at = omega arith
end_after (suc n) s at = go (eqb (get_or s at 0) 0) (end_after n s (at + 1))
  where
    go : (b : Bool) → at + 1 ≤ zero_from n s (at + 1) → at ≤ pick b at (zero_from n s (at + 1))
    go true h = omega arith
    go false h = omega arith

-- The name of a function command.
module _ (sheet : List ℕ) (at : ℕ) {e : ℕ} where
  pub given-name : e ≡ zero_from 16 sheet at → name_at sheet (record { start = at; len = e - at }) ≡ given_name sheet at
  unfolding given_name
  given-name h = rw h refl

  pub name-after : e ≡ zero_from 16 sheet at → at ≤ e
  name-after h = rw h (end_after 16 sheet at)

-- A buffer of 4,096 bytes in the line.
module _ (line : List ℕ) (h : length line ≡ 4124) where
  pub part_length : length (take 4096 (drop 27 line)) ≡ 4096
  part_length = length-take-le 4096 (drop 27 line) (omega (arith, length-drop 27 line))

  module _ (out : List ℕ) where
    pub answer-fits : (o : call.Outcome) (a : (Result ℕ Refusal)) → given out a ≡ laid (take 4096 (drop 27 line)) o → length out ≡ length (take 4096 (drop 27 line))
        → (of_answer a).value ≤ 4096
    answer-fits o a e f = let k = answer-room 0 (take 4096 (drop 27 line)) out o a e f in let m = part_length in omega arith

    module _ (n : ℕ) {p q : Pen} (e : p ≡ started 4096) (w : Wrote (page (take 4096 (drop 27 line)) p) (writing (decimal n)) (page out q)) where
      pub size-whole : Whole (take 4096 (drop 27 line)) (decimal n) out q.at
      size-whole = line-whole (e ∙ ap started (sym part_length)) w (let k = digits_low n in let m = part_length in omega arith)

      pub size_fits : q.at ≤ 4096
      size_fits = let k = digits_low n in let l = size-whole.length-is in omega arith

-- What the calls answer in it.
module _ (types : List ℕ) (v : Near) (flags size : ℕ) where
  pub function-room : (name name' : List ℕ) (i : ℕ) {room : ℕ} → name ≡ name' → room ≡ 4096 → function_over types v flags size name i room ≡ function_over types v flags size name' i 4096
  function-room name name' i e f = rw (e, f) refl

  pub type-room : (i : ℕ) {room : ℕ} → room ≡ 4096 → type_over types v flags size i room ≡ type_over types v flags size i 4096
  type-room i e = rw e refl

  pub id-room : (ids : List ℕ) (i : ℕ) {room : ℕ} → room ≡ 4096 → id_over types ids v flags size i room ≡ id_over types ids v flags size i 4096
  id-room ids i e = rw e refl

-- A line is passed over where it was printed before.
pub passed : (buf : List ℕ) (at n skip : ℕ) (l : List ℕ) → n < skip → placed buf (Some at) ≡ put_of buf at (ltb n skip) l
passed buf at n skip l h = sym (put-passed buf at (ltb n skip) l (lt-ltb n skip h))

-- Nothing is lost.
abbrev next_fit : List ℕ → Fit → Bool → Fit
next_fit l f b = pick b (ahead l 1 f) (record { bytes = []; lines = 0; more = true })

fit-kept : (room : ℕ) (ls : List (List ℕ)) → joined ls ≡ (fit room ls).bytes ++ joined (drop (fit room ls).lines ls)
unfolding fit joined
fit-kept room [] = refl
fit-kept room (l ∷ ls) = by (leb (length l) room) (fit-kept (room - length l) ls)
  where
    by : (b : Bool) → joined ls ≡ (fit (room - length l) ls).bytes ++ joined (drop (fit (room - length l) ls).lines ls)
        → l ++ joined ls ≡ (next_fit l (fit (room - length l) ls) b).bytes ++ joined (drop (next_fit l (fit (room - length l) ls) b).lines (l ∷ ls))
    by true h =
        let f = fit (room - length l) ls in
        let k : 1 + f.lines ≡ suc f.lines = omega arith in
        rw (k, append_assoc) (ap (λ (x : List ℕ). l ++ x) h)
    by false h = refl

fit-over : (room : ℕ) (ls : List (List ℕ)) → (fit room ls).more ≡ false → drop (fit room ls).lines ls ≡ []
unfolding fit
fit-over room [] e = refl
fit-over room (l ∷ ls) e = by (leb (length l) room) (fit-over (room - length l) ls) e
  where
    by : (b : Bool) → ((fit (room - length l) ls).more ≡ false → drop (fit (room - length l) ls).lines ls ≡ [])
        → (next_fit l (fit (room - length l) ls) b).more ≡ false → drop (next_fit l (fit (room - length l) ls) b).lines (l ∷ ls) ≡ []
    by true h e = let f = fit (room - length l) ls in let k : 1 + f.lines ≡ suc f.lines = omega arith in rw k (h e)
    by false h e = absurd (true-false e)

fit-left : (room : ℕ) (ls : List (List ℕ)) → (fit room ls).more ≡ true → (fit room ls).lines < length ls
unfolding fit
fit-left room [] e = absurd (true-false (sym e))
fit-left room (l ∷ ls) e = by (leb (length l) room) (fit-left (room - length l) ls) e
  where
    by : (b : Bool) → ((fit (room - length l) ls).more ≡ true → (fit (room - length l) ls).lines < length ls)
        → (next_fit l (fit (room - length l) ls) b).more ≡ true → (next_fit l (fit (room - length l) ls) b).lines < suc (length ls)
    by true h e = let k = h e in omega arith
    by false h e = omega arith

abbrev pub Short : List (List ℕ) → Type 0
Short [] = Unit {0}
Short (l ∷ ls) = (length l ≤ 4150) × Short ls

no-room-line : (n room : ℕ) → length (outcome_line n (call.stopped NoRoom)) ≤ 54 + room
unfolding outcome_line call.of_text text_of refused_line
no-room-line n room = refused-room n NoRoom (omega arith)

-- Each line has 4,150 bytes at most.
said-length : (n room : ℕ) (bs : List ℕ) (k : ℕ) (e : trace.End Refusal) → length bs ≤ room → length (outcome_line n (call.answer bs k e)) ≤ 54 + room
unfolding outcome_line call.answer call.of_text text_of text_line refused_line
said-length n room bs k done h = let l = text-length n bs in omega arith
said-length n room bs k (missing i) h = refused-room n (Missing i) (omega arith)
said-length n room bs k (refused f) h = refused-room n f (omega arith)
said-length n room bs k (halted (again i)) h = refused-room n (CircularTypeDefinition i) (omega arith)
said-length n room bs k (halted (deep i)) h = refused-room n (TooManyOpen i) (omega arith)
said-length n room bs k (halted (long i)) h = refused-room n (ChainTooLong i) (omega arith)
said-length n room bs k unfinished h = refused-room n NoRoom (omega arith)

outcome-length : (n room : ℕ) (t : Trace Refusal) → length (outcome_line n (call.within room t)) ≤ 54 + room
unfolding call.within
outcome-length n room (tr bs e ns c) = by (dec_le (length bs) room)
  where
    by : Dec (length bs ≤ room) → length (outcome_line n (pick (leb (length bs) room) (call.answer bs c.opened e) (call.stopped NoRoom))) ≤ 54 + room
    by (yes h) = rw (le-leb (length bs) room h) (said-length n room bs c.opened e h)
    by (no h) = rw (lt-leb (length bs) room (omega arith)) (no-room-line n room)

unsized-length : (n : ℕ) (f : Refusal) → length (told_line n (call.refused_by f) (decimal 0)) ≤ 4150
unsized-length n f = rw (told-refused n f (decimal 0)) (refused-room n f (omega arith))

size-line-length : (n : ℕ) (a : call.Size) → length (size_line n (call.of_size a)) ≤ 4150
unfolding size_line call.of_size text_line told_line
size-line-length n (call.size_bytes k) = size_room n k (omega arith)
size-line-length n (call.unsized f) = unsized-length n f

-- Calls whose texts have 4,096 bytes at most.
pub record Bounded (k : Calls) : Type 0 where
  pub function : (n flags size : ℕ) (name : List ℕ) (i : ℕ) → length (outcome_line n (k.function flags size name i)) ≤ 54 + 4096
  pub id : (n flags size i : ℕ) → length (outcome_line n (k.id flags size i)) ≤ 54 + 4096
  pub type_text : (n flags size i : ℕ) → length (outcome_line n (k.type_text flags size i)) ≤ 54 + 4096

pub bounded-to : (types ids : List ℕ) → Bounded (calls_to types ids)
unfolding type_outcome id_outcome function_outcome
bounded-to types ids =
    record {
      function = λ n flags size name i. outcome-length n 4096 _;
      id = λ n flags size i. outcome-length n 4096 _;
      type_text = λ n flags size i. outcome-length n 4096 _;
    }

pub bounded-over : (types ids : List ℕ) (v : Near) → Bounded (calls_over types ids v)
unfolding type_over id_over function_over
bounded-over types ids v =
    record {
      function = λ n flags size name i. outcome-length n 4096 _;
      id = λ n flags size i. outcome-length n 4096 _;
      type_text = λ n flags size i. outcome-length n 4096 _;
    }

module _ (k : Calls) (h : Bounded k) (sheet : List ℕ) where
  line-length : (s : State) (c : Command) → length (line_of k sheet s c) ≤ 4150
  unfolding line_of
  line-length s End = omega arith
  line-length s (Flags n) = omega arith
  line-length s (PointerSize n) = omega arith
  line-length s (TypeText i) = h.type_text (s.lines + 1) s.flags s.size i
  line-length s (TypeSize i) = size-line-length (s.lines + 1) (k.type_size s.size i)
  line-length s (IdText i) = h.id (s.lines + 1) s.flags s.size i
  line-length s (FunctionText i) = h.function (s.lines + 1) s.flags s.size (given_name sheet (s.at + 5)) i
  line-length s (Faulty b) = refused-room (s.lines + 1) (UnknownCommand b) (omega arith)

  from-short : (n : ℕ) (s : State) → Short (lines_from k sheet n s)
  unfolding lines_from
  from-short zero s = tt
  from-short (suc n) s =
      let c = command_at sheet s.at in
      by (step_of c) (line_of k sheet s c) (lines_from k sheet n (after_of s c)) (line-length s c) (from-short n (after_of s c))
    where
      by : (x : Step) (l : List ℕ) (ls : List (List ℕ)) → length l ≤ 4150 → Short ls → Short (by_step x l ls)
      by step.Over l ls h i = tt
      by step.Setting l ls h i = i
      by (step.Last b) l ls h i = (h, tt)
      by step.Line l ls h i = (h, i)

  pub sheet-short : Short (lines_by k sheet)
  unfolding lines_by
  sheet-short = from-short (length sheet) begin

-- Kept of the same streams, the lines are theirs.
module _ (types ids sheet : List ℕ) (v : Near) (e : Kept types ids v) where
  line_kept : (s : State) (c : Command) → line_of (calls_over types ids v) sheet s c ≡ line_of (calls_to types ids) sheet s c
  unfolding line_of
  line_kept s End = refl
  line_kept s (Flags n) = refl
  line_kept s (PointerSize n) = refl
  line_kept s (TypeText i) = ap (outcome_line (s.lines + 1)) (type-over types v e.of_types s.flags s.size i 4096)
  line_kept s (TypeSize i) = ap (λ x. size_line (s.lines + 1) (call.of_size x)) (size-over types v e.of_types s.size i)
  line_kept s (IdText i) = ap (outcome_line (s.lines + 1)) (id-over types v e.of_types ids e.of_ids s.flags s.size i 4096)
  line_kept s (FunctionText i) = ap (outcome_line (s.lines + 1)) (function-over types v e.of_types (given_name sheet (s.at + 5)) s.flags s.size i 4096)
  line_kept s (Faulty b) = refl

  from-kept : (n : ℕ) (s : State) → lines_from (calls_over types ids v) sheet n s ≡ lines_from (calls_to types ids) sheet n s
  unfolding lines_from
  from-kept zero s = refl
  from-kept (suc n) s = let c = command_at sheet s.at in ap₂ (by_step (step_of c)) (line_kept s c) (from-kept n (after_of s c))

  pub lines-kept : lines_over types ids v sheet ≡ sheet_lines types ids sheet
  unfolding lines_by
  lines-kept = from-kept (length sheet) begin

  pub fit-kept-of : (skip room : ℕ) → fit_over types ids v sheet skip room ≡ sheet_fit types ids sheet skip room
  fit-kept-of skip room = ap (λ ls. fit room (drop skip ls)) lines-kept

drop-short : (n : ℕ) (ls : List (List ℕ)) → Short ls → Short (drop n ls)
drop-short zero ls h = h
drop-short (suc n) [] h = h
drop-short (suc n) (l ∷ ls) h = drop-short n ls h.1

fit-some : (room : ℕ) (ls : List (List ℕ)) → Short ls → (fit room ls).more ≡ true → 4150 ≤ room → 0 < (fit room ls).lines
unfolding fit
fit-some room [] s e h = absurd (true-false (sym e))
fit-some room (l ∷ ls) s e h = rw (le-leb (length l) room (omega (arith, s.0))) (omega arith)

pub continues : (all : List (List ℕ)) (skip room : ℕ) → Short all → Continues all skip room (fit room (drop skip all))
continues all skip room s =
    let f = fit room (drop skip all) in
    let d : drop (skip + f.lines) all ≡ drop f.lines (drop skip all) = sym (drop-drop f.lines skip all) in
    record {
      kept = rw d (fit-kept room (drop skip all));
      over = λ e. d ∙ fit-over room (drop skip all) e;
      left = λ e. let k = fit-left room (drop skip all) e in let l = length-drop skip all in omega arith;
      some = fit-some room (drop skip all) (drop-short skip all s);
    }
