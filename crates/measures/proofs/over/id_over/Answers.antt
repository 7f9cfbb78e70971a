-- The measure is that of the walk.
use Rattle.measures.proofs.Laws.{id-is}
use borrow.Author.Rules.{rules}
use Rattle.measures.proofs.over.id_over.Goals as goal

pub returns : goal.returns
returns c = id-is _ _ _ _ _ _ c.walk_id-p.ensures c.measure_of.ensures
