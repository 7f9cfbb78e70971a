-- Each case of an answer.
use borrow.Author.Rules.{rules}
use Rattle.batch.proofs.BatchLaws.{noted-text, noted-refused}
use Rattle.batch.proofs.note.Goals as goal

pub returns-in-Ok : goal.returns-in-Ok
returns-in-Ok c = noted-text _ c.in-Ok.is c.put_four.ensures

pub returns-in-Err : goal.returns-in-Err
returns-in-Err c = noted-refused _ c.in-Err.is c.number.ensures c.detail.ensures c.put_four-in-Err.ensures
