-- A line is passed over where it was printed before.
use Rattle.sheet.proofs.SheetLaws.{passed}
use Rattle.sheet.proofs.put_line.Goals as goal

pub returns-then-s-skip : goal.returns-then-s-skip
returns-then-s-skip c = passed _ _ _ _ _ c.if-s-skip.true
