-- The digits end at place 20, and the fields stand behind them.
use Rattle.std.proofs.Common.{refl, rules}
use Rattle.sheet.proofs.SheetLaws.{head-placed}
use Rattle.sheet.proofs.line.head_before.Goals as goal

pub returns : goal.returns
returns c = (c.decimal_in-at.ensures.0, rw c.copy.ensures (head-placed c.args.line.now c.decimal_in-at.new.buf _ c.decimal_in-at.result (search rules) (search rules) refl c.decimal_in-at.ensures.0 c.decimal_in-at.ensures.1))
