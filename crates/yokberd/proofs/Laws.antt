-- What is told of an answer is what its definition says, and the counts of a printed sheet are those of its lines. Assumes nothing.
use Rattle.std.specs.Prelude.{Result}
use Prim.Native.Nat.{ℕ}
use mathlib.Core.Path.{◌≡◌, refl, sym, ap, ◌∙◌}
use mathlib.Core.List.{List}
use Rattle.wire.specs.Field.{pick}
use Rattle.streams.specs.declared.refusal.Refusal.{Refusal}
use Rattle.record_places.specs.RecordPlaces.{Pass, leaves}
use Rattle.rules.specs.Call.{Outcome, Size, Report, report, refused_by, of_size}
use Rattle.checked_calls.specs.Answers.{left, of_answer, given, laid}
use Rattle.checked_calls.specs.Checks.{of_size_answer}
use Rattle.rules.specs.Measure.{Measure, MeasureReport, report_of, of_measure}
use Rattle.measures.specs.Measures.{of_measured}
use Rattle.measures.specs.declared.answer.Extent.{Extent}
use Rattle.sheet.specs.Sheet.{Fit}
use Rattle.sheet.specs.Printed.{Shown, shown, laid_out}
use Rattle.sheet.specs.declared.Printed.{Printed}
use Rattle.msf.specs.Contents as stream
use Rattle.msf.specs.declared.damage.Damage.{Damage}
use Rattle.yokberd.specs.Report.{Counts, counts, of_printed, of_fit, Told, told, of_read, of_pass}

-- What a text call leaves, and what a size call tells.
pub text-left : (buf out : List ℕ) (a : (Result ℕ Refusal)) (o : Outcome) {r : Report} {D : Type 0} → (given out a ≡ laid buf o) × D → r ≡ of_answer a → (left out r ≡ laid buf o) × D
text-left buf out a o (e, d) h = (ap (left out) h ∙ e, d)

pub size-report : {r : Report} (a : (Result ℕ Refusal)) (s : Size) {D : Type 0} → (of_size_answer a ≡ of_size s) × D → r ≡ of_size_answer a → (r ≡ of_size s) × D
size-report a s (e, d) h = (h ∙ e, d)

-- The same of a call over what is kept of a check: by any numbers, and where these are those of the same bytes.
pub text-kept : {K : Type 0} (buf out : List ℕ) (a : (Result ℕ Refusal)) (o u : Outcome) {r : Report} → (given out a ≡ laid buf o) × (K → given out a ≡ laid buf u) → r ≡ of_answer a → (left out r ≡ laid buf o) × (K → left out r ≡ laid buf u)
text-kept buf out a o u (e, f) h = (ap (left out) h ∙ e, λ k. ap (left out) h ∙ f k)

pub size-kept : {K : Type 0} {r : Report} (a : (Result ℕ Refusal)) (s t : Size) → (of_size_answer a ≡ of_size s) × (K → of_size_answer a ≡ of_size t) → r ≡ of_size_answer a → (r ≡ of_size s) × (K → r ≡ of_size t)
size-kept a s t (e, f) h = (h ∙ e, λ k. h ∙ f k)

-- What a sheet call leaves.
pub sheet-left : (buf out : List ℕ) (p : Printed) (f : Fit) {c : Counts} {D : Type 0} → (shown out p ≡ laid_out buf f) × D → c ≡ of_printed p → (c ≡ of_fit f) × ((out ≡ (laid_out buf f).buf) × D)
unfolding laid_out of_fit
sheet-left buf out p f (e, d) g =
    let counted = ap (λ (s : Shown). counts (pick s.more 1 0) s.bytes s.lines) e in
    (g ∙ counted, (ap (λ (s : Shown). s.buf) e, d))

-- The same over what is kept of a check: by any numbers, and where these are those of the same bytes.
pub sheet-kept : {K D : Type 0} (buf out : List ℕ) (p : Printed) (f g : Fit) {c : Counts} → (shown out p ≡ laid_out buf f) × ((K → shown out p ≡ laid_out buf g) × D) → c ≡ of_printed p
    → (c ≡ of_fit f) × ((out ≡ (laid_out buf f).buf) × ((K → (c ≡ of_fit g) × (out ≡ (laid_out buf g).buf)) × D))
sheet-kept buf out p f g (e, (k, d)) h =
    let x = sheet-left buf out p f (e, d) h in
    (x.0, (x.1.0, ((λ y. let z = sheet-left buf out p g (k y, d) h in (z.0, z.1.0)), d)))

-- What the container's call leaves.
pub stream-left : (out : List ℕ) (a : (Result ℕ Damage)) (s : stream.Given) {t : Told} → stream.given out a ≡ s → t ≡ of_read a → (t ≡ of_read s.told) × (out ≡ s.buf)
stream-left out a s e f = (f ∙ ap (λ (r : stream.Given). of_read r.told) e, ap (λ (r : stream.Given). r.buf) e)

-- What the pass leaves.
pub pass-left : (out : List ℕ) (a : (Result ℕ Refusal)) (p : Pass) {r : Report} → leaves out a ≡ p → r ≡ of_pass a → (r ≡ of_pass p.told) × (out ≡ p.buf)
pass-left out a p e f = (f ∙ ap (λ (q : Pass). of_pass q.told) e, ap (λ (q : Pass). q.buf) e)

-- What a measure tells: of a plain one or one with lent places, and of one over what is kept of a check.
pub measure-report : {r : MeasureReport} (a : (Result Extent Refusal)) (m : Measure) {D : Type 0} → (of_measured a ≡ of_measure m) × D → r ≡ of_measured a → (r ≡ of_measure m) × D
measure-report a m (e, d) h = (h ∙ e, d)

pub measure-kept : {K : Type 0} {r : MeasureReport} (a : (Result Extent Refusal)) (m o : Measure) → (of_measured a ≡ of_measure m) × (K → of_measured a ≡ of_measure o) → r ≡ of_measured a → (r ≡ of_measure m) × (K → r ≡ of_measure o)
measure-kept a m o (e, f) h = (h ∙ e, λ k. h ∙ f k)
