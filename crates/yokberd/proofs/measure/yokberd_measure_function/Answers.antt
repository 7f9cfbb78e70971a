-- The answer is reported.
use Rattle.yokberd.proofs.Laws.{measure-report}
use borrow.Author.Rules.{rules}
use Rattle.yokberd.proofs.measure.yokberd_measure_function.Goals as goal

pub returns : goal.returns
returns c = let e = measure-report _ _ (c.measure_function-a.ensures.result_value, c.measure_function-a.ensures.function_measure_demand) c.report_measure.ensures in record { opened_after = e.0; function_measure_demand = e.1 }
