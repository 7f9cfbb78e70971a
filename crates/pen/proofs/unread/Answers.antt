-- What the pen stops at is the trace's end.
use Rattle.pen.proofs.Laws.{wrote-unread}
use Rattle.pen.proofs.unread.Goals as goal

pub returns : goal.returns
returns c = wrote-unread _ _ _ _ c.unreadable.ensures
