-- Four numbers in the places of four.
use borrow.Author.Rules.{rules}
use Rattle.batch.proofs.BatchLaws.{four-set}
use Rattle.batch.proofs.put_four.Goals as goal

pub returns : goal.returns
returns c = four-set c.args.to.now _ _ _ _ c.requires
