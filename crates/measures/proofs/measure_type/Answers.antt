-- The check of the stream is handed on as it came; demand 3 is a theorem of the rules.
use mathlib.Core.Path.{◌∙◌, ap}
use Rattle.rules.specs.Measure.{measure_of, of_measure, type_measure}
use Rattle.rules.proofs.Measuring.{type-measure-demand}
use Rattle.rules.specs.Call.{Outcome}
use Rattle.checked_calls.proofs.CallsLaws.{type-over}
use borrow.Author.Rules.{rules}
use Rattle.measures.proofs.measure_type.Goals as goal

pub returns : goal.returns
unfolding type_measure
returns c = record { result_value = c.type_over.ensures ∙ ap (λ (o : Outcome). of_measure (measure_of o)) (type-over _ _ c.keep_types-bounds.ensures _ _ _ _); type_measure_demand = type-measure-demand _ _ _ _ }
