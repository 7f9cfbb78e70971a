-- With the places of the stream the measure is the plain one, by them; with others 17 follows from its checks.
use mathlib.Core.Path.{sym, ◌∙◌, ap}
use Rattle.rules.specs.Measure.{measure_of, of_measure, id_placed_measure}
use Rattle.rules.specs.Call.{Outcome}
use Rattle.checked_calls.proofs.CallsLaws.{id-lent, id-unlent}
use Rattle.rules.proofs.Measuring.{id-placed-measure-demand}
use borrow.Author.Rules.{rules}
use Rattle.measures.proofs.placed.measure_id.Goals as goal

pub returns-in-Ok : goal.returns-in-Ok
unfolding id_placed_measure
returns-in-Ok c = record { result_value = c.id_over.ensures ∙ ap (λ (o : Outcome). of_measure (measure_of o)) (id-lent _ _ _ (c.keep_lent_ids.ensures c.args.types.now c.args.places.now c.check_placed-c.ensures.0).0 (sym c.check_placed-c.ensures.1 ∙ c.in-Ok.is) _ (c.keep_lent_ids.ensures c.args.types.now c.args.places.now c.check_placed-c.ensures.0).1 _ _ _ _); id_placed_measure_demand = id-placed-measure-demand _ _ _ _ _ _ }

pub returns-in-Err : goal.returns-in-Err
unfolding id_placed_measure
returns-in-Err c = record { result_value = (rw c.check_id_call.ensures at c.refuse_place.ensures) ∙ ap (λ (o : Outcome). of_measure (measure_of o)) (id-unlent _ _ _ (c.keep_lent_ids.ensures c.args.types.now c.args.places.now c.check_placed-c.ensures.0).0 _ (sym c.check_placed-c.ensures.1 ∙ c.in-Err.is) _ (c.keep_lent_ids.ensures c.args.types.now c.args.places.now c.check_placed-c.ensures.0).1 _ _ _ _); id_placed_measure_demand = id-placed-measure-demand _ _ _ _ _ _ }
