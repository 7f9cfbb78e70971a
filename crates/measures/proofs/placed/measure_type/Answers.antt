-- With the places of the stream the measure is the plain one, by them; with others 17 follows from its checks.
use mathlib.Core.Path.{sym, ◌∙◌, ap}
use Rattle.rules.specs.Measure.{measure_of, of_measure, type_placed_measure}
use Rattle.rules.specs.Call.{Outcome}
use Rattle.checked_calls.proofs.CallsLaws.{type-lent, type-unlent}
use Rattle.rules.proofs.Measuring.{type-placed-measure-demand}
use borrow.Author.Rules.{rules}
use Rattle.measures.proofs.placed.measure_type.Goals as goal

pub returns-in-Ok : goal.returns-in-Ok
unfolding type_placed_measure
returns-in-Ok c = record { result_value = c.type_over.ensures ∙ ap (λ (o : Outcome). of_measure (measure_of o)) (type-lent _ _ _ (c.keep_lent-bounds.ensures c.args.types.now c.args.places.now c.check_placed-c.ensures.0) (sym c.check_placed-c.ensures.1 ∙ c.in-Ok.is) _ _ _ _); type_placed_measure_demand = type-placed-measure-demand _ _ _ _ _ }

pub returns-in-Err : goal.returns-in-Err
unfolding type_placed_measure
returns-in-Err c = record { result_value = (rw c.check_call.ensures at c.refuse_place.ensures) ∙ ap (λ (o : Outcome). of_measure (measure_of o)) (type-unlent _ _ _ (c.keep_lent-bounds.ensures c.args.types.now c.args.places.now c.check_placed-c.ensures.0) _ (sym c.check_placed-c.ensures.1 ∙ c.in-Err.is) _ _ _ _); type_placed_measure_demand = type-placed-measure-demand _ _ _ _ _ }
