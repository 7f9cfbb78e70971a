-- A line has room in its buffer; and nothing of the lines is lost.
use Rattle.sheet.proofs.SheetLaws.{continues, sheet-short, bounded-over}
use borrow.Author.Rules.{rules}
use Rattle.sheet.proofs.print_over.Goals as goal

pub returns : goal.returns
returns c = record { result_after = c.put_lines.ensures; continues_over = continues _ _ _ (sheet-short _ (bounded-over _ _ _) _) }
