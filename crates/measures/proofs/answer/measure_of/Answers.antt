-- Each return is a case of `measured_by`.
use Rattle.measures.proofs.Laws.{measured-no, measured-missing, measured-refused}
use borrow.Author.Rules.{rules}
use Rattle.measures.proofs.answer.measure_of.Goals as goal

pub returns-in-No : goal.returns-in-No
returns-in-No c = measured-no c.args.p c.openings.ensures (cc)

pub returns-in-Missing : goal.returns-in-Missing
returns-in-Missing c = measured-missing c.args.p _ (cc)

pub returns-in-Refused : goal.returns-in-Refused
returns-in-Refused c = measured-refused c.args.p _ (cc)
