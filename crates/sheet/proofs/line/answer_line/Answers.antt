-- Each answer is a case of the definition.
use Rattle.sheet.proofs.SheetLaws.{text-said, refusal-said, answer-low}
use Rattle.sheet.proofs.line.answer_line.Goals as goal

pub text_line-requires : goal.text_line-requires
text_line-requires c = answer-low _ c.in-Ok.is c.requires

pub returns-in-Ok : goal.returns-in-Ok
returns-in-Ok c = text-said _ c.args.line.now _ c.in-Ok.is c.text_line.ensures

pub returns-in-Err : goal.returns-in-Err
returns-in-Err c = refusal-said _ c.args.line.now _ c.in-Err.is c.refused_line.ensures
