-- The digits are written where a text stands; each answer is a case of the definition.
use Rattle.std.proofs.Common.{rules, drop}
use Rattle.sheet.proofs.SheetLaws.{size-said, size-refused, size-whole, size_fits}
use Rattle.sheet.proofs.line.size_line.Goals as goal

pub text_line-requires : goal.text_line-requires
text_line-requires c = size_fits c.args.line.now (search rules) c.decimal-q.new.out _ c.start.ensures c.decimal-q.ensures

pub returns-in-Ok : goal.returns-in-Ok
returns-in-Ok c = size-said _ c.args.line.now c.decimal-q.new.out (drop 4096 (drop 27 c.args.line.now)) _ c.in-Ok.is (search rules) (size-whole c.args.line.now (search rules) c.decimal-q.new.out _ c.start.ensures c.decimal-q.ensures) c.text_line.ensures

pub returns-in-Err : goal.returns-in-Err
returns-in-Err c = size-refused _ _ c.in-Err.is c.refused_line.ensures
