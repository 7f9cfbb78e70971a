-- The page and the counts are those of the call.
use Rattle.yokberd.proofs.Laws.{sheet-kept}
use borrow.Author.Rules.{rules}
use Rattle.yokberd.proofs.yokberd_checked_print_sheet.Goals as goal

pub returns : goal.returns
returns c = let e = sheet-kept _ _ _ _ _ (c.print_sheet-p.ensures.result_after, (c.print_sheet-p.ensures.result_after_2, c.print_sheet-p.ensures.continues_over)) c.report_printed.ensures in record { lines_after = e.0; out_after = e.1.0; lines_after_2 = e.1.1.0; continues_over = e.1.1.1 }
