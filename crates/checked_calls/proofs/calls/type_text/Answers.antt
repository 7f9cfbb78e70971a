-- The answer is that of the walk.
use Rattle.checked_calls.specs.Checks.{type_over}
use Rattle.checked_calls.proofs.CallsLaws.{text-is}
use borrow.Author.Rules.{rules}
use Rattle.checked_calls.proofs.calls.type_text.Goals as goal

pub returns : goal.returns
unfolding type_over
returns c = text-is c.walk_type-p.ensures c.answer_of.ensures
