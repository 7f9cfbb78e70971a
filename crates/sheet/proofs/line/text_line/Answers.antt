-- The fields, the bytes that stand behind them, and the end of the line.
use Rattle.std.proofs.Common.{rules}
use Rattle.sheet.proofs.SheetLaws.{text-placed}
use Rattle.sheet.proofs.line.text_line.Goals as goal

pub returns : goal.returns
returns c = text-placed c.args.line.now c.head_before-at.new.line _ _ _ (search rules) (search rules) c.head_before-at.ensures.0 c.requires c.head_before-at.ensures.1
