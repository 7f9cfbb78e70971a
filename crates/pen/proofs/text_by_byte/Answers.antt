-- Nothing is left.
use Rattle.std.proofs.Common.{arith}
use Rattle.std.proofs.lemmas.Grind.{common_steps}
use Rattle.pen.proofs.Laws.{run-say, ink-nil}
use Rattle.pen.proofs.text_by_byte.Goals as goal

pub returns : goal.returns
returns c = record { is = grind (arith, common_steps, run-say, ink-nil) }
