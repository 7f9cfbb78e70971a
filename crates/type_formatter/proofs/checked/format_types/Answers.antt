-- The batch over what the buffer keeps; kept of the same bytes it is the plain one.
use borrow.Author.Rules.{rules}
use mathlib.Core.Path.{◌∙◌, ap}
use Rattle.batch.specs.Batch.{laid_batch}
use Rattle.batch.proofs.BatchLaws.{type-batch-kept, batch-goes-on}
use Rattle.type_formatter.proofs.checked.format_types.Goals as goal

pub returns : goal.returns
returns c = let e = (rw (c.kept_lent-lent.ensures.types, c.kept_lent-lent.ensures.ids, c.kept_lent-lent.ensures.kept) at c.texts_over.ensures.result_after) in record { result_after = e; result_after_2 = λ k. e ∙ ap (laid_batch _ _) (type-batch-kept _ _ _ _ _ _ _ _ k); goes_on = batch-goes-on _ _ _ _ }
