-- Each return is a case of `answered_by`.
use borrow.Author.Rules.{rules}
use Rattle.checked_calls.proofs.AnswerLaws.{answered-no, answered-missing, answered-refused}
use Rattle.checked_calls.proofs.answer.answer_of.Goals as goal

pub returns-in-No : goal.returns-in-No
returns-in-No c = answered-no c.args.p (cc)

pub returns-in-Missing : goal.returns-in-Missing
returns-in-Missing c = answered-missing c.args.p _ (cc)

pub returns-in-Refused : goal.returns-in-Refused
returns-in-Refused c = answered-refused c.args.p _ (cc)
