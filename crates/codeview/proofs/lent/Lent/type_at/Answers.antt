-- A kind that is not matched here is decoded as the definition says.
use Rattle.std.proofs.Common.{rules}
use Rattle.codeview.proofs.Laws.{by_type}
use Rattle.codeview.proofs.lent.Lent.type_at.Goals as goal

pub returns-in_default : goal.returns-in_default
returns-in_default c = search (by_type, rules)
