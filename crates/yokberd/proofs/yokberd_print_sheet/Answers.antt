-- The page and the counts are those of the call.
use Rattle.yokberd.proofs.Laws.{sheet-left}
use borrow.Author.Rules.{rules}
use Rattle.yokberd.proofs.yokberd_print_sheet.Goals as goal

pub returns : goal.returns
returns c = let e = sheet-left _ _ _ _ (c.print_sheet-p.ensures.result_after, c.print_sheet-p.ensures.sheet_continues) c.report_printed.ensures in record { lines_after = e.0; out_after = e.1.0; sheet_continues = e.1.1 }
