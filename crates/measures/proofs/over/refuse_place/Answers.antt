-- By what the checks came to.
use Rattle.measures.proofs.Laws.{unplaced-good, unplaced-refused}
use borrow.Author.Rules.{rules}
use Rattle.measures.proofs.over.refuse_place.Goals as goal

pub returns-in-Ok : goal.returns-in-Ok
returns-in-Ok c = unplaced-good _ c.in-Ok.is

pub returns-in-Err : goal.returns-in-Err
returns-in-Err c = unplaced-refused _ c.in-Err.is
