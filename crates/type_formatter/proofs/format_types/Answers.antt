-- The batch over what was kept of the types is theirs; demand 3 is a theorem of the rules.
use borrow.Author.Rules.{rules}
use mathlib.Core.Path.{◌∙◌, ap}
use Rattle.rules.proofs.Demand.{type-demand}
use Rattle.batch.specs.Batch.{laid_batch}
use Rattle.batch.proofs.BatchLaws.{type-batch-kept, batch-goes-on}
use Rattle.type_formatter.proofs.format_types.Goals as goal

pub returns : goal.returns
returns c = record { result_after = c.texts_over.ensures.result_after ∙ ap (laid_batch _ _) (type-batch-kept _ _ _ _ _ _ _ _ c.keep_types-bounds.ensures); goes_on = batch-goes-on _ _ _ _; by_index = λ i. type-demand _ _ _ i }
