-- The measure is that of the walk.
use Rattle.measures.proofs.Laws.{type-is}
use borrow.Author.Rules.{rules}
use Rattle.measures.proofs.over.type_over.Goals as goal

pub returns : goal.returns
returns c = type-is _ _ _ _ _ c.walk_type-p.ensures c.measure_of.ensures
