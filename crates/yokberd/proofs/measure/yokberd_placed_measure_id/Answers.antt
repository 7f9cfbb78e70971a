-- The answer is reported.
use Rattle.yokberd.proofs.Laws.{measure-report}
use borrow.Author.Rules.{rules}
use Rattle.yokberd.proofs.measure.yokberd_placed_measure_id.Goals as goal

pub returns : goal.returns
returns c = let e = measure-report _ _ (c.measure_id-a.ensures.result_value, c.measure_id-a.ensures.id_placed_measure_demand) c.report_measure.ensures in record { opened_after = e.0; id_placed_measure_demand = e.1 }
