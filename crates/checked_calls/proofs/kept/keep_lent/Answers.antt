-- The check is kept, and the places where they are those of the stream.
use Rattle.checked_calls.proofs.Keeping.{lent-alone}
use borrow.Author.Rules.{rules}
use Rattle.checked_calls.proofs.kept.keep_lent.Goals as goal

pub returns : goal.returns
returns c = λ types ps h. lent-alone _ _ _ (rw c.by_lent.ensures at c.bounds_of.ensures) types ps h
