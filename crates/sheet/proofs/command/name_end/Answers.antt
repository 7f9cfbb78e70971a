use Rattle.std.proofs.Common.{◌∙◌, arith}
use Rattle.sheet.proofs.LinesLaws.{name_goes}
use Rattle.sheet.proofs.command.name_end.Goals as goal

pub loop-end-preserved : goal.loop-end-preserved
loop-end-preserved c = (omega (arith, c.loop-end.invariant.0), c.loop-end.invariant.1 ∙ name_goes _ _ _ _ (omega arith) c.if-sheet-end-eq0.false)
