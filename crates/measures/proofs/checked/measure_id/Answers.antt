-- The measure over what the buffer keeps; kept of the same bytes it is the plain one.
use mathlib.Core.Path.{◌∙◌, ap}
use Rattle.rules.specs.Measure.{measure_of, of_measure, id_measure}
use Rattle.rules.specs.Call.{Outcome}
use Rattle.checked_calls.proofs.CallsLaws.{id-over}
use borrow.Author.Rules.{rules}
use Rattle.measures.proofs.checked.measure_id.Goals as goal

pub returns : goal.returns
unfolding id_measure
returns c = let e = (rw (c.numbers_of-numbers.ensures, c.places_behind-places.ensures) at c.id_over.ensures) in record { result_value = e; result_value_2 = λ k. e ∙ ap (λ (o : Outcome). of_measure (measure_of o)) (id-over _ _ k.of_types _ k.of_ids _ _ _ _) }
