-- The checks of the two streams are handed on as they came; demand 3 is a theorem of the rules.
use mathlib.Core.Path.{◌∙◌, ap}
use Rattle.rules.specs.Measure.{measure_of, of_measure, id_measure}
use Rattle.rules.specs.Call.{Outcome}
use Rattle.rules.proofs.Measuring.{id-measure-demand}
use Rattle.checked_calls.proofs.CallsLaws.{id-over}
use borrow.Author.Rules.{rules}
use Rattle.measures.proofs.measure_id.Goals as goal

pub returns : goal.returns
unfolding id_measure
returns c = record { result_value = c.id_over.ensures ∙ ap (λ (o : Outcome). of_measure (measure_of o)) (id-over _ _ c.keep_both.ensures.of_types _ c.keep_both.ensures.of_ids _ _ _ _); id_measure_demand = id-measure-demand _ _ _ _ _ }
