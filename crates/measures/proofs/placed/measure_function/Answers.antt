-- With the places of the stream the measure is the plain one, by them; with others 17 follows from its checks.
use mathlib.Core.Path.{sym, ◌∙◌, ap}
use Rattle.rules.specs.Measure.{measure_of, of_measure, function_placed_measure}
use Rattle.rules.specs.Call.{Outcome}
use Rattle.checked_calls.proofs.CallsLaws.{function-lent, function-unlent}
use Rattle.rules.proofs.Measuring.{function-placed-measure-demand}
use borrow.Author.Rules.{rules}
use Rattle.measures.proofs.placed.measure_function.Goals as goal

pub returns-in-Ok : goal.returns-in-Ok
unfolding function_placed_measure
returns-in-Ok c = record { result_value = c.function_over.ensures ∙ ap (λ (o : Outcome). of_measure (measure_of o)) (function-lent _ _ _ (c.keep_lent-bounds.ensures c.args.types.now c.args.places.now c.check_placed-c.ensures.0) (sym c.check_placed-c.ensures.1 ∙ c.in-Ok.is) _ _ _ _ _); function_placed_measure_demand = function-placed-measure-demand _ _ _ _ _ _ }

pub returns-in-Err : goal.returns-in-Err
unfolding function_placed_measure
returns-in-Err c = record { result_value = (rw c.check_call.ensures at c.refuse_place.ensures) ∙ ap (λ (o : Outcome). of_measure (measure_of o)) (function-unlent _ _ _ (c.keep_lent-bounds.ensures c.args.types.now c.args.places.now c.check_placed-c.ensures.0) _ (sym c.check_placed-c.ensures.1 ∙ c.in-Err.is) _ _ _ _ _); function_placed_measure_demand = function-placed-measure-demand _ _ _ _ _ _ }
