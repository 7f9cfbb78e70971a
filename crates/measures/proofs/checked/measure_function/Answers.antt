-- The measure over what the buffer keeps; kept of the same bytes it is the plain one.
use mathlib.Core.Path.{◌∙◌, ap}
use Rattle.rules.specs.Measure.{measure_of, of_measure, function_measure}
use Rattle.rules.specs.Call.{Outcome}
use Rattle.checked_calls.proofs.CallsLaws.{function-over}
use borrow.Author.Rules.{rules}
use Rattle.measures.proofs.checked.measure_function.Goals as goal

pub returns : goal.returns
unfolding function_measure
returns c = let e = (rw (c.numbers_of-numbers.ensures, c.places_behind-places.ensures) at c.function_over.ensures) in record { result_value = e; result_value_2 = λ k. e ∙ ap (λ (o : Outcome). of_measure (measure_of o)) (function-over _ _ k _ _ _ _ _) }
