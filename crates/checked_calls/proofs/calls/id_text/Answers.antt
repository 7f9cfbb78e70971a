-- The answer is that of the walk.
use Rattle.checked_calls.specs.Checks.{id_over}
use Rattle.checked_calls.proofs.CallsLaws.{text-is}
use borrow.Author.Rules.{rules}
use Rattle.checked_calls.proofs.calls.id_text.Goals as goal

pub returns : goal.returns
unfolding id_over
returns c = text-is c.walk_id-p.ensures c.answer_of.ensures
