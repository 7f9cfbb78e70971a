-- The lines over what was kept of both streams are theirs; and nothing of them is lost.
use mathlib.Core.Path.{◌∙◌, ap}
use Rattle.sheet.specs.Printed.{laid_out}
use Rattle.sheet.proofs.SheetLaws.{continues, sheet-short, bounded-to, fit-kept-of}
use borrow.Author.Rules.{rules}
use Rattle.sheet.proofs.print_sheet.Goals as goal

pub returns : goal.returns
returns c = record { result_after = c.print_over.ensures.result_after ∙ ap (laid_out _) (fit-kept-of _ _ c.args.sheet.now _ c.keep_both.ensures c.args.skip _); sheet_continues = continues _ _ _ (sheet-short _ (bounded-to _ _) _) }
