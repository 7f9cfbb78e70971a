-- The definition.
use borrow.Author.Rules.{rules}
use Rattle.checked_calls.proofs.kept.by_lent.Goals as goal

pub returns : goal.returns
returns c = rw c.strided_by.ensures
