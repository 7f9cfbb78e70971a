-- The answer is reported.
use Rattle.yokberd.proofs.Laws.{size-kept}
use borrow.Author.Rules.{rules}
use Rattle.yokberd.proofs.yokberd_checked_get_type_size.Goals as goal

pub returns : goal.returns
returns c = let e = size-kept _ _ _ (c.get_type_size-a.ensures.result_value, c.get_type_size-a.ensures.result_value_2) c.report_size.ensures in record { bytes_after = e.0; bytes_after_2 = e.1 }
