-- What a measure says of the text call that reads the same, and demand 3 of measures (document 02, Note 4). Assumes nothing.
use Prim.Native.Nat.{ℕ, ◌+◌, ◌*◌, ◌≤◌, ◌<◌}
use native.Mathlib.Omega.{arith}
use mathlib.Core.Path.{◌≡◌, refl, ◌∙◌, ap, subst}
use mathlib.Core.Bool.{Bool, true, false}
use mathlib.Core.List.{List}
use mathlib.Core.Logic.{◌↔◌}
use lib.Dec.{T, leb, leb→le}
use lib.ListN.{length}
use Rattle.wire.specs.Field.{pick}
use Rattle.streams.specs.declared.refusal.Refusal.{Refusal}
use Rattle.streams.specs.declared.refusal.Refusal.TheVariants.{NoRoom, WrongPlace}
use Rattle.interpreter.specs.Trace.{Note, done, Count, count, Trace, tr}
use Rattle.rules.specs.Flags.{Settings}
use Rattle.rules.specs.Record.{Table}
use Rattle.rules.specs.Task.{Task}
use Rattle.rules.specs.Call.{Outcome, text, stopped, answer, within, strictly, plain_to, Reads, Demand}
use Rattle.rules.specs.Placed.{with_places, PlacedDemand}
use Rattle.rules.specs.Measure.{measured, unmeasured, measure_of, longest, Fits, MeasureDemand, PlacedMeasureDemand, FunctionMeasureDemand, IdMeasureDemand, TypeMeasureDemand, FunctionPlacedMeasureDemand, IdPlacedMeasureDemand, TypePlacedMeasureDemand}
use Rattle.rules.proofs.Demand.{is-text, text-is, function-demand, id-demand, type-demand}
use Rattle.rules.proofs.PlacedCalls.{function-placed-demand, id-placed-demand, type-placed-demand}
use Rattle.rules.proofs.Openings.{Few, few-function, few-id, few-type, few-function-placed, few-id-placed, few-type-placed}

-- An outcome that is measured is a text, and one that is not is the same refusal.
is-measured : (o : Outcome) (n m : ℕ) → measure_of o ≡ measured n m → (bs : List ℕ) × ((o ≡ text bs m) × (length bs ≡ n))
unfolding measure_of
is-measured (text bs k) n m e = (bs, (ap (text bs) (cc), cc))
is-measured (stopped f) n m e = absurd (let z : ◌≡◌ {A = ℕ} 0 1 = cc in omega arith)

unmeasured-is : (o : Outcome) (f : Refusal) → (measure_of o ≡ unmeasured f) ↔ (o ≡ stopped f)
unfolding measure_of
unmeasured-is (text bs k) f = (λ e. absurd (let z : ◌≡◌ {A = ℕ} 0 1 = cc in omega arith), λ e. absurd (let z : ◌≡◌ {A = ℕ} 0 1 = cc in omega arith))
unmeasured-is (stopped g) f = (λ e. cc, λ e. cc)

text-measured : (o : Outcome) (bs : List ℕ) (m : ℕ) → o ≡ text bs m → measure_of o ≡ measured (length bs) m
unfolding measure_of
text-measured o bs m e = ap measure_of e

-- A text that is longer than the buffer.
too_short : (room : ℕ) (bs : List ℕ) (ns : List Note) (k : Count) → room < length bs → within room (tr bs done ns k) ≡ stopped NoRoom
unfolding within
too_short room bs ns k h = go (leb (length bs) room) (λ t. leb→le (length bs) room t)
  where
    go : (b : Bool) → (T b → length bs ≤ room) → pick b (answer bs k.opened done) (stopped NoRoom) ≡ stopped NoRoom
    go true f = let l : length bs ≤ room = f tt in absurd (omega arith)
    go false f = refl

-- The openings of a text.
pub measure-few : (room : ℕ) (t : Trace Refusal) → Few t → (bs : List ℕ) (m : ℕ) → within room t ≡ text bs m → m ≤ 3_200 * (length bs + 1)
measure-few room t h bs m e = subst Few (is-text room bs m t e).is h

-- Whatever is read, where openings are bounded by bytes.
pub fits : (t : Trace Refusal) → Few t → Fits t
fits t h = record { enough = enough; short = short; refusals = λ f. unmeasured-is (within longest t) f; every = every; few = few }
  where
    enough : (n m : ℕ) → measure_of (within longest t) ≡ measured n m → (room : ℕ) → n ≤ room → (bs : List ℕ) × ((within room t ≡ text bs m) × (length bs ≡ n))
    enough n m e room l =
        let (bs, (o, k)) = is-measured (within longest t) n m e in
        let it = is-text longest bs m t o in
        (bs, (ap (within room) it.is ∙ text-is room bs it.notes (count m it.steps) (omega arith), k))

    short : (n m : ℕ) → measure_of (within longest t) ≡ measured n m → (room : ℕ) → room < n → within room t ≡ stopped NoRoom
    short n m e room l =
        let (bs, (o, k)) = is-measured (within longest t) n m e in
        let it = is-text longest bs m t o in
        ap (within room) it.is ∙ too_short room bs it.notes (count m it.steps) (omega arith)

    every : (room : ℕ) (bs : List ℕ) (m : ℕ) → within room t ≡ text bs m → length bs ≤ longest → measure_of (within longest t) ≡ measured (length bs) m
    every room bs m e l =
        let it = is-text room bs m t e in
        text-measured (within longest t) bs m (ap (within longest) it.is ∙ text-is longest bs it.notes (count m it.steps) l)

    few : (n m : ℕ) → measure_of (within longest t) ≡ measured n m → m ≤ 3_200 * (n + 1)
    few n m e =
        let (bs, (o, k)) = is-measured (within longest t) n m e in
        omega (arith, measure-few longest t h bs m o)

-- Two numbers exactly where there is such a text, from the same of texts.
exactly-measured : (o : Outcome) (P : List ℕ → ℕ → Type 0) → ((bs : List ℕ) (m : ℕ) → (o ≡ text bs m) ↔ (P bs m × (length bs ≤ longest)))
    → (n m : ℕ) → (measure_of o ≡ measured n m) ↔ ((bs : List ℕ) × (P bs m × ((length bs ≡ n) × (n ≤ longest))))
exactly-measured o P both n m = (forth, back)
  where
    forth : measure_of o ≡ measured n m → (bs : List ℕ) × (P bs m × ((length bs ≡ n) × (n ≤ longest)))
    forth e =
        let (bs, (p, k)) = is-measured o n m e in
        let (r, l) = (both bs m).0 p in
        (bs, (r, (k, omega arith)))

    back : (bs : List ℕ) × (P bs m × ((length bs ≡ n) × (n ≤ longest))) → measure_of o ≡ measured n m
    back (bs, (r, (k, l))) = text-measured o bs m ((both bs m).1 (r, omega arith)) ∙ ap (λ (i : ℕ). measured i m) k

measure-demand : {reading : (Settings → Table → Task → Trace Refusal) → Trace Refusal} → Demand reading → Few (reading strictly) → MeasureDemand reading
measure-demand {reading} d h =
    record {
      fits = fits (reading strictly) h;
      exactly = exactly-measured (within longest (reading strictly)) (Reads (λ n. reading (plain_to n))) (d.exactly longest);
      plain = d;
    }

placed-measure-demand : {types ps : List ℕ} {reading : (Settings → Table → Task → Trace Refusal) → Trace Refusal} → PlacedDemand types ps reading → Few (reading (with_places types ps strictly)) → PlacedMeasureDemand types ps reading
placed-measure-demand {types} {ps} {reading} d h =
    record {
      fits = fits (reading (with_places types ps strictly)) h;
      exactly = λ w. exactly-measured (within longest (reading (with_places types ps strictly))) (Reads (λ n. reading (plain_to n))) (d.exactly longest (λ k e. w k ((unmeasured-is (within longest (reading (with_places types ps strictly))) (WrongPlace k)).1 e)));
      placed = d;
    }

-- Demand 3 of the three measures, and of those with lent places.
module _ (flags size : ℕ) (types : List ℕ) where
  pub function-measure-demand : (name : List ℕ) (index : ℕ) → FunctionMeasureDemand flags size types name index
  function-measure-demand name index = measure-demand (function-demand flags size types name index) (few-function flags size types name index)

  pub id-measure-demand : (ids : List ℕ) (index : ℕ) → IdMeasureDemand flags size types ids index
  id-measure-demand ids index = measure-demand (id-demand flags size types ids index) (few-id flags size types ids index)

  pub type-measure-demand : (index : ℕ) → TypeMeasureDemand flags size types index
  type-measure-demand index = measure-demand (type-demand flags size types index) (few-type flags size types index)

  pub function-placed-measure-demand : (ps name : List ℕ) (index : ℕ) → FunctionPlacedMeasureDemand flags size types ps name index
  function-placed-measure-demand ps name index = placed-measure-demand (function-placed-demand flags size types ps name index) (few-function-placed flags size types ps name index)

  pub id-placed-measure-demand : (ids ps : List ℕ) (index : ℕ) → IdPlacedMeasureDemand flags size types ids ps index
  id-placed-measure-demand ids ps index = placed-measure-demand (id-placed-demand flags size types ps ids index) (few-id-placed flags size types ids ps index)

  pub type-placed-measure-demand : (ps : List ℕ) (index : ℕ) → TypePlacedMeasureDemand flags size types ps index
  type-placed-measure-demand ps index = placed-measure-demand (type-placed-demand flags size types ps index) (few-type-placed flags size types ps index)
