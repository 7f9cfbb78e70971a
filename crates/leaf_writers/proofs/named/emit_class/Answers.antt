-- The name behind the word of its kind.
use Rattle.pen.proofs.Laws.{◌▹◌, wrote_by}
use Rattle.leaf_writers.proofs.SignsLaws.{class-behind}
use Rattle.leaf_writers.proofs.named.emit_class.Goals as goal

pub returns : goal.returns
returns c = wrote_by (c.emit_word-q.ensures ▹ c.emit_shown.ensures) (class-behind _ c.args.kind _)
