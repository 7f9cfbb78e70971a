-- The batch over what was kept of both streams is theirs; demand 3 is a theorem of the rules.
use borrow.Author.Rules.{rules}
use mathlib.Core.Path.{◌∙◌, ap}
use Rattle.rules.proofs.Demand.{id-demand}
use Rattle.batch.specs.Batch.{laid_batch}
use Rattle.batch.proofs.BatchLaws.{id-batch-kept, batch-goes-on}
use Rattle.type_formatter.proofs.format_ids.Goals as goal

pub returns : goal.returns
returns c = record { result_after = c.texts_over.ensures.result_after ∙ ap (laid_batch _ _) (id-batch-kept _ _ _ _ _ _ _ _ c.keep_both.ensures); goes_on = batch-goes-on _ _ _ _; by_index = λ i. id-demand _ _ _ _ i }
