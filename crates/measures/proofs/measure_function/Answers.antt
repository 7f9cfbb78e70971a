-- The check of the stream is handed on as it came; demand 3 is a theorem of the rules.
use mathlib.Core.Path.{◌∙◌, ap}
use Rattle.rules.specs.Measure.{measure_of, of_measure, function_measure}
use Rattle.rules.proofs.Measuring.{function-measure-demand}
use Rattle.rules.specs.Call.{Outcome}
use Rattle.checked_calls.proofs.CallsLaws.{function-over}
use borrow.Author.Rules.{rules}
use Rattle.measures.proofs.measure_function.Goals as goal

pub returns : goal.returns
unfolding function_measure
returns c = record { result_value = c.function_over.ensures ∙ ap (λ (o : Outcome). of_measure (measure_of o)) (function-over _ _ c.keep_types-bounds.ensures _ _ _ _ _); function_measure_demand = function-measure-demand _ _ _ _ _ }
