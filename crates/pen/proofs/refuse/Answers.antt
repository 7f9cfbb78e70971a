-- The pen stops at this end.
use mathlib.Core.Path.{refl}
use Rattle.interpreter.specs.Trace.{refused}
use Rattle.pen.specs.Page.{stop_of}
use Rattle.pen.proofs.Laws.{wrote-stop}
use Rattle.pen.proofs.refuse.Goals as goal

pub returns : goal.returns
unfolding stop_of
returns c = wrote-stop _ _ _ (refused _) 0 _ refl c.stopped.ensures
