-- The byte is stored at the pen's place.
use Rattle.pen.proofs.Laws.{put-stored}
use Rattle.pen.proofs.byte.Goals as goal

pub returns-then-p : goal.returns-then-p
returns-then-p c = put-stored c.args.out.now _ c.args.p _ c.args.b c.store.ensures c.past.ensures c.if-p-ne0.false c.if-p.true
