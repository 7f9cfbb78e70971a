-- What a measure answers is the outcome of its walk, read off the pen: a text's length, and its openings, which a pen has room to count. Assumes nothing.
use Rattle.std.specs.Prelude.{Result, Ok, Err}
use Prim.Native.Nat.{ℕ, ◌+◌, ◌*◌, ◌≤◌}
use mathlib.Core.Path.{◌≡◌, refl, ap, sym, ◌∙◌}
use mathlib.Core.List.{List, []}
use lib.ListN.{length}
use native.Mathlib.Omega.{arith}
use Rattle.streams.specs.Bounds.{check_in}
use Rattle.streams.specs.declared.refusal.StreamKind.TheVariants.{Types, Ids}
use Rattle.streams.specs.declared.refusal.Refusal.{Refusal}
use Rattle.streams.specs.declared.refusal.Refusal.TheVariants.{WrongPlace}
use Rattle.interpreter.specs.Trace.{Trace}
use Rattle.pen.specs.Page.{page, read_pen, Wrote, most}
use Rattle.pen.specs.declared.Pen.{Pen}
use Rattle.pen.specs.declared.Stop.{Stop}
use Rattle.pen.specs.declared.Stop.TheVariants as stop
use Rattle.context.specs.Context.{settings_of, holding}
use Rattle.context.specs.declared.flags.Call.{Call}
use Rattle.rules.specs.Call.{text, within, refusal}
use Rattle.rules.specs.Measure.{measure_of, longest, of_measure}
use Rattle.rules.specs.Places.{Near, beside, table_in}
use Rattle.rules.specs.Task.{Task, by_itself, function_of, id_of}
use Rattle.rules.proofs.Measuring.{measure-few}
use Rattle.rules.proofs.Openings.{Few, few-walk}
use Rattle.rules.proofs.PlacedCalls.{refusal-within}
use Rattle.checked_calls.specs.Answers.{started}
use Rattle.checked_calls.specs.Checks.{call_by, ids_by, performed, taken, function_walk, id_walk, type_walk, function_over, id_over, type_over, unplaced}
use Rattle.checked_calls.proofs.AnswerLaws.{answered, Gave, gave}
use Rattle.measures.specs.Measures.{of_measured, measured_by}
use Rattle.measures.specs.declared.answer.Extent.{Extent}

-- The ends of `measure_of`.
module _ (p : Pen) where
  pub measured-no : {o : ℕ} → o ≡ (read_pen p).opened → (read_pen p).stop ≡ stop.No → Ok (record { length = p.at; opened = o }) ≡ measured_by (read_pen p).stop p.at (read_pen p).opened
  measured-no e f = rw (e, f) refl

  pub measured-missing : (i : ℕ) → (read_pen p).stop ≡ stop.Missing i → measured_by (stop.Missing i) p.at (read_pen p).opened ≡ measured_by (read_pen p).stop p.at (read_pen p).opened
  measured-missing i e = rw e refl

  pub measured-refused : (f : Refusal) → (read_pen p).stop ≡ stop.Refused f → Err f ≡ measured_by (read_pen p).stop p.at (read_pen p).opened
  measured-refused f e = rw e refl

-- A walk over a page whose pen had the longest limit.
module _ (buf : List ℕ) (t : Trace Refusal) (few : Few t) (b : List ℕ) (q : Pen) where
  measured-at : (x : Stop) → (read_pen q).stop ≡ x → Gave buf longest t b q → of_measured (measured_by x q.at (read_pen q).opened) ≡ of_measure (measure_of (within longest t))
  unfolding of_measured of_measure measure_of
  measured-at stop.No e g =
      let i : within longest t ≡ text g.bytes g.many = g.is ∙ ap (λ x. answered x g.bytes g.many) e in
      let r = g.whole e in
      let n : g.many ≤ 3_200 * (length g.bytes + 1) = measure-few longest t few g.bytes g.many i in
      let l : g.many ≤ most = omega (arith, r.room) in
      rw (i, r.at, r.opened l) refl
  measured-at (stop.Missing j) e g = rw (g.is ∙ ap (λ x. answered x g.bytes g.many) e) refl
  measured-at (stop.Refused f) e g = rw (g.is ∙ ap (λ x. answered x g.bytes g.many) e) refl

-- What a call reads opens few: its walk, and a refusal of its checks, which opens nothing.
few-performed : (types : List ℕ) (v : Near) (ids : List ℕ) (x : Task) (r : (Result Call Refusal)) → Few (performed r (taken types (beside ids v) x))
few-performed types v ids x (Ok c) = few-walk (settings_of c) (table_in types (beside ids v)) (holding c []) x
few-performed types v ids x (Err f) = omega arith

measured-is : {t : Trace Refusal} → Few t → {buf b : List ℕ} {q : Pen} {a : (Result Extent Refusal)} → Wrote (page buf (started longest)) t (page b q)
    → a ≡ measured_by (read_pen q).stop q.at (read_pen q).opened → of_measured a ≡ of_measure (measure_of (within longest t))
measured-is {t} few {buf} {b} {q} w e = ap of_measured e ∙ measured-at buf t few b q (read_pen q).stop refl (gave buf longest t b q w)

-- The three measures.
module _ (v : Near) (flags size : ℕ) (types : List ℕ) where
  pub function-is : (name : List ℕ) (i : ℕ) {buf b : List ℕ} {q : Pen} {a : (Result Extent Refusal)} → Wrote (page buf (started longest)) (function_walk types v flags size name i) (page b q)
      → a ≡ measured_by (read_pen q).stop q.at (read_pen q).opened → of_measured a ≡ of_measure (measure_of (function_over types v flags size name i longest))
  unfolding function_over function_walk
  function-is name i = measured-is (few-performed types v [] (function_of i name) (call_by (check_in v.bounds Types) flags size))

  pub id-is : (ids : List ℕ) (i : ℕ) {buf b : List ℕ} {q : Pen} {a : (Result Extent Refusal)} → Wrote (page buf (started longest)) (id_walk types ids v flags size i) (page b q)
      → a ≡ measured_by (read_pen q).stop q.at (read_pen q).opened → of_measured a ≡ of_measure (measure_of (id_over types ids v flags size i longest))
  unfolding id_over id_walk
  id-is ids i = measured-is (few-performed types v ids (id_of i) (ids_by (check_in v.bounds Types) (check_in v.bounds Ids) flags size))

  pub type-is : (i : ℕ) {buf b : List ℕ} {q : Pen} {a : (Result Extent Refusal)} → Wrote (page buf (started longest)) (type_walk types v flags size i) (page b q)
      → a ≡ measured_by (read_pen q).stop q.at (read_pen q).opened → of_measured a ≡ of_measure (measure_of (type_over types v flags size i longest))
  unfolding type_over type_walk
  type-is i = measured-is (few-performed types v [] (by_itself i) (call_by (check_in v.bounds Types) flags size))

-- What a measure with a wrong place tells, by its checks.
module _ (n : ℕ) {r : (Result Call Refusal)} where
  pub unplaced-good : {c : Call} → r ≡ Ok c → of_measured (Err (WrongPlace n)) ≡ of_measure (measure_of (within longest (unplaced r n)))
  unfolding of_measured of_measure measure_of
  unplaced-good f = rw (f, refusal-within longest (WrongPlace n)) refl

  pub unplaced-refused : {f : Refusal} → r ≡ Err f → of_measured (Err f) ≡ of_measure (measure_of (within longest (unplaced r n)))
  unfolding of_measured of_measure measure_of
  unplaced-refused {f} g = rw (g, refusal-within longest f) refl
