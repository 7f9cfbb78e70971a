-- By what the checks came to.
use mathlib.Core.Path.{◌∙◌}
use Rattle.checked_calls.proofs.CallsLaws.{unplaced_is}
use borrow.Author.Rules.{rules}
use Rattle.checked_calls.proofs.calls.refuse_place.Goals as goal

pub returns : goal.returns
returns c = (rw c.place_refusal.ensures at c.settle.ensures) ∙ unplaced_is _ _ _
