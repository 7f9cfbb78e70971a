-- The answer is reported.
use Rattle.yokberd.proofs.Laws.{measure-report}
use borrow.Author.Rules.{rules}
use Rattle.yokberd.proofs.measure.yokberd_measure_type.Goals as goal

pub returns : goal.returns
returns c = let e = measure-report _ _ (c.measure_type-a.ensures.result_value, c.measure_type-a.ensures.type_measure_demand) c.report_measure.ensures in record { opened_after = e.0; type_measure_demand = e.1 }
