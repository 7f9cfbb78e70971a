-- The count between two brackets.
use Rattle.pen.proofs.Laws.{◌▹◌, wrote_by}
use Rattle.leaf_writers.proofs.BracketsLaws.{bracket-some}
use Rattle.leaf_writers.proofs.brackets.emit_bracket.Goals as goal

pub returns : goal.returns
returns c = wrote_by (c.text-q.ensures ▹ c.decimal-r.ensures ▹ c.text-2.ensures) (bracket-some _ _ c.if-size-eq0.false)
