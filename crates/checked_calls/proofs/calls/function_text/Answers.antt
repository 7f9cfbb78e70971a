-- The answer is that of the walk.
use Rattle.checked_calls.specs.Checks.{function_over}
use Rattle.checked_calls.proofs.CallsLaws.{text-is}
use borrow.Author.Rules.{rules}
use Rattle.checked_calls.proofs.calls.function_text.Goals as goal

pub returns : goal.returns
unfolding function_over
returns c = text-is c.walk_function-p.ensures c.answer_of.ensures
