-- The answer is reported.
use Rattle.yokberd.proofs.Laws.{measure-kept}
use borrow.Author.Rules.{rules}
use Rattle.yokberd.proofs.measure.yokberd_checked_measure_type.Goals as goal

pub returns : goal.returns
returns c = let e = measure-kept _ _ _ (c.measure_type-a.ensures.result_value, c.measure_type-a.ensures.result_value_2) c.report_measure.ensures in record { opened_after = e.0; opened_after_2 = e.1 }
