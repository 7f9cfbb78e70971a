-- The measure is that of the walk.
use Rattle.measures.proofs.Laws.{function-is}
use borrow.Author.Rules.{rules}
use Rattle.measures.proofs.over.function_over.Goals as goal

pub returns : goal.returns
returns c = function-is _ _ _ _ _ _ c.walk_function-p.ensures c.measure_of.ensures
