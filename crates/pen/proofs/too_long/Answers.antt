-- The pen stops at this end.
use mathlib.Core.Path.{refl}
use Rattle.interpreter.specs.Trace.{halted, long}
use Rattle.pen.specs.Page.{stop_of}
use Rattle.pen.proofs.Laws.{wrote-stop}
use Rattle.pen.proofs.too_long.Goals as goal

pub returns : goal.returns
unfolding stop_of
returns c = wrote-stop _ _ _ (halted (long _)) 0 _ refl c.stopped.ensures
