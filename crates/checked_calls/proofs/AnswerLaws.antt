-- What a text call answers is the outcome of its trace, read off the page that the trace left. Assumes nothing.
use Rattle.std.specs.Prelude.{Result, Ok, Err}
use Prim.Native.Nat.{ℕ, ◌+◌, ◌<◌, ◌≤◌}
use mathlib.Core.Path.{◌≡◌, refl, ap, ap₂, sym, ◌∙◌}
use mathlib.Core.List.{List, []}
use lib.ListN.{length, take, drop, replicate}
use lib.Seq.{sets-eq, take-append_seam}
use native.Mathlib.Omega.{arith}
use native.Mathlib.Decide.{dec_le}
use native.Mathlib.Nat.{zero-add}
use borrow.Author.Tests.{le-leb, lt-leb}
use Rattle.streams.specs.Refusal.{number_of}
use Rattle.streams.specs.declared.refusal.Refusal.{Refusal}
use Rattle.streams.specs.declared.refusal.Refusal.TheVariants as refusal
use Rattle.interpreter.specs.Trace.{End, done, missing, refused, halted, unfinished, again, deep, long, Trace, tr}
use Rattle.pen.specs.Page.{read_pen, page, Wrote, stop_of}
use Rattle.pen.proofs.Laws.{Ran, ran-fits, ran_over, wrote-length}
use Rattle.pen.specs.declared.Pen.{Pen}
use Rattle.pen.specs.declared.Stop.{Stop}
use Rattle.pen.specs.declared.Stop.TheVariants as stop
use Rattle.rules.specs.Call.{Outcome, text, stopped, answer, within, buffer_after, Report, refused_by, accepted, of_text}
use Rattle.rules.proofs.Demand.{numbered}
use Rattle.checked_calls.specs.Answers.{Left, of_answer, given, laid, text_of, settled, started, answered_by}

-- the ends of `answer_of` and of `settle`
module _ (p : Pen) where
  pub answered-no : (read_pen p).stop ≡ stop.No → Ok p.at ≡ answered_by (read_pen p).stop p.at
  answered-no e = rw e refl

  pub answered-missing : (i : ℕ) → (read_pen p).stop ≡ stop.Missing i → Err (refusal.Missing i) ≡ answered_by (read_pen p).stop p.at
  answered-missing i e = rw e refl

  pub answered-refused : (f : Refusal) → (read_pen p).stop ≡ stop.Refused f → Err f ≡ answered_by (read_pen p).stop p.at
  answered-refused f e = rw e refl

pub settle-text : (b : List ℕ) {a : (Result ℕ Refusal)} {n : ℕ} → a ≡ Ok n → given b (Ok n) ≡ settled b a
unfolding settled of_answer
settle-text b e = rw e refl

pub settle-refused : (b : List ℕ) {c : List ℕ} {a : (Result ℕ Refusal)} {f : Refusal} → c ≡ replicate (length b) 0 → a ≡ Err f → given c (Err f) ≡ settled b a
unfolding settled of_answer
settle-refused b g e = rw (g, e) refl

-- the text of an outcome is the start of the buffer after it
pub text-taken : (buf : List ℕ) (o : Outcome) → take (of_text o).value (buffer_after buf o) ≡ text_of o
unfolding of_text buffer_after text_of
text-taken buf (text bs k) = take-append_seam bs (drop (length bs) buf)
text-taken buf (stopped f) = refl

-- the same of a call that may leave what was written: what it tells, and its text
module _ (b buf : List ℕ) (o : Outcome) where
  pub settled-told : (a : (Result ℕ Refusal)) → settled b a ≡ laid buf o → of_answer a ≡ of_text o
  unfolding settled laid of_answer
  settled-told (Ok n) e = ap (λ (r : Left). r.told) e
  settled-told (Err f) e = ap (λ (r : Left). r.told) e

  none_of : (f : Refusal) → refused_by f ≡ of_text o → text_of o ≡ []
  unfolding of_text text_of
  none_of f e = by o e
    where
      by : (o : Outcome) → refused_by f ≡ of_text o → text_of o ≡ []
      by (text bs n) e = absurd (let z : number_of f ≡ 0 = ap (λ (r : Report). r.number) e in let h = numbered f in omega arith)
      by (stopped g) e = refl

  pub settled-text : (a : (Result ℕ Refusal)) → settled b a ≡ laid buf o → take (of_answer a).value b ≡ text_of o
  unfolding settled laid of_answer
  settled-text (Ok n) e =
      let t : accepted n ≡ of_text o = ap (λ (r : Left). r.told) e in
      let l : b ≡ buffer_after buf o = ap (λ (r : Left). r.buf) e in
      ap₂ (λ (r : Report) (c : List ℕ). take r.value c) t l ∙ text-taken buf o
  settled-text (Err f) e = sym (none_of f (ap (λ (r : Left). r.told) e))

-- the outcome by how the pen stopped
abbrev pub answered : Stop → List ℕ → ℕ → Outcome
answered stop.No bs c = text bs c
answered (stop.Missing i) bs c = stopped (refusal.Missing i)
answered (stop.Refused f) bs c = stopped f

answer-stop : (e : End Refusal) (bs : List ℕ) (c : ℕ) → answer bs c e ≡ answered (stop_of e) bs c
unfolding answer stop_of
answer-stop done bs c = refl
answer-stop (missing i) bs c = refl
answer-stop (refused f) bs c = refl
answer-stop (halted (again i)) bs c = refl
answer-stop (halted (deep i)) bs c = refl
answer-stop (halted (long i)) bs c = refl
answer-stop unfinished bs c = refl

-- what a walk from the start has left
pub record Gave (buf : List ℕ) (limit : ℕ) (t : Trace Refusal) (b : List ℕ) (q : Pen) : Type 0 where
  pub bytes : List ℕ
  pub many : ℕ
  pub is : within limit t ≡ answered (read_pen q).stop bytes many
  pub whole : (read_pen q).stop ≡ stop.No → Ran buf limit bytes many b q

pub gave : (buf : List ℕ) (limit : ℕ) (t : Trace Refusal) (b : List ℕ) (q : Pen) → Wrote (page buf (started limit)) t (page b q) → Gave buf limit t b q
unfolding within started
gave buf limit (tr bs e ns c) b q w = by (dec_le (length bs) limit)
  where
    by : Dec (length bs ≤ limit) → Gave buf limit (tr bs e ns c) b q
    by (yes h) =
        let f = ran-fits buf limit bs e ns c b q h w in
        record { bytes = bs; many = c.opened; is = rw (le-leb (length bs) limit h, f.0) (answer-stop e bs c.opened); whole = f.1 }
    by (no h) =
        let l : limit < length bs = omega arith in
        let f = ran_over buf limit bs e ns c b q l w in
        record { bytes = bs; many = c.opened; is = rw (lt-leb (length bs) limit l, f) refl; whole = λ n. absurd (let z : ◌≡◌ {A = ℕ} 0 1 = cc (f, n) in omega arith) }

module _ (buf : List ℕ) (t : Trace Refusal) (b : List ℕ) (q : Pen) where
  laid-at : (x : Stop) (limit : ℕ) → (read_pen q).stop ≡ x → limit ≡ length buf → length b ≡ length buf → Gave buf limit t b q → settled b (answered_by x q.at) ≡ laid buf (within limit t)
  unfolding settled laid buffer_after of_text
  laid-at stop.No limit e h n g =
      let i : within limit t ≡ text g.bytes g.many = g.is ∙ ap (λ x. answered x g.bytes g.many) e in
      let r = g.whole e in
      let k : 0 + length g.bytes ≤ length buf = omega (arith, r.room) in
      rw (i, r.at, r.buffer, sets-eq g.bytes buf 0 k, zero-add) refl
  laid-at (stop.Missing j) limit e h n g = rw (g.is ∙ ap (λ x. answered x g.bytes g.many) e, n) refl
  laid-at (stop.Refused f) limit e h n g = rw (g.is ∙ ap (λ x. answered x g.bytes g.many) e, n) refl

-- a walk from the start of the buffer is answered as the rules say, and so is a refusal before it
pub answer-is : {buf b : List ℕ} {q : Pen} {t : Trace Refusal} → Wrote (page buf (started (length buf))) t (page b q)
    → settled b (answered_by (read_pen q).stop q.at) ≡ laid buf (within (length buf) t)
answer-is {buf} {b} {q} {t} w = laid-at buf t b q (read_pen q).stop (length buf) refl refl (wrote-length w) (gave buf (length buf) t b q w)

pub refused-laid : (buf : List ℕ) (f : Refusal) → settled buf (Err f) ≡ laid buf (stopped f)
unfolding settled laid buffer_after of_text
refused-laid buf f = refl
