-- The text as it was written; where the call is refused, zeros.
use borrow.Author.Rules.{rules}
use mathlib.Core.Path.{◌∙◌}
use Rattle.checked_calls.proofs.calls.id_over.Goals as goal

pub returns : goal.returns
returns c = c.settle.ensures ∙ c.id_text-a.ensures
