-- The buffer is as the call left it, and its answer is reported.
use Rattle.yokberd.proofs.Laws.{text-kept}
use borrow.Author.Rules.{rules}
use Rattle.yokberd.proofs.yokberd_checked_format_id.Goals as goal

pub returns : goal.returns
returns c = let e = text-kept _ _ _ _ _ (c.format_id-a.ensures.result_after, c.format_id-a.ensures.result_after_2) c.report_count.ensures.text in record { written_after = e.0; written_after_2 = e.1 }
