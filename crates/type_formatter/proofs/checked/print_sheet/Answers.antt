-- The lines over what the buffer keeps; kept of the same bytes they are the plain ones.
use mathlib.Core.Path.{◌∙◌, ap}
use Rattle.sheet.specs.Printed.{laid_out}
use Rattle.sheet.proofs.SheetLaws.{fit-kept-of}
use borrow.Author.Rules.{rules}
use Rattle.type_formatter.proofs.checked.print_sheet.Goals as goal

pub returns : goal.returns
returns c = let e = (rw (c.kept_lent-lent.ensures.types, c.kept_lent-lent.ensures.ids, c.kept_lent-lent.ensures.kept) at c.print_over.ensures.result_after) in record { result_after = e; result_after_2 = λ k. e ∙ ap (laid_out _) (fit-kept-of _ _ c.args.sheet.now _ k c.args.skip _); continues_over = (rw (c.kept_lent-lent.ensures.types, c.kept_lent-lent.ensures.ids, c.kept_lent-lent.ensures.kept) at c.print_over.ensures.continues_over) }
