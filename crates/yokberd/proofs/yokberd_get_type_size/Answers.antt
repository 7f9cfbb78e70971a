-- The answer of the call is reported.
use Rattle.yokberd.proofs.Laws.{size-report}
use borrow.Author.Rules.{rules}
use Rattle.yokberd.proofs.yokberd_get_type_size.Goals as goal

pub returns : goal.returns
returns c = let e = size-report _ _ (c.get_type_size-a.ensures.result_value, c.get_type_size-a.ensures.size_finished) c.report_size.ensures in record { bytes_after = e.0; size_finished = e.1 }
