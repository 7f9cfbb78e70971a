-- Nothing is written without the condition.
use Rattle.pen.proofs.Laws.{wrote_none}
use Rattle.pen.proofs.text_if.Goals as goal

pub returns : goal.returns
returns c = rw c.if-b.false wrote_none
