-- Nothing, or the word of the kind.
use mathlib.Core.Path.{◌∙◌}
use Rattle.pen.proofs.Laws.{wrote-same}
use Rattle.context.proofs.Laws.{sets_name_only}
use Rattle.leaf_writers.proofs.SignsLaws.{word_none}
use Rattle.leaf_writers.proofs.named.emit_word.Goals as goal

pub returns-then-alone : goal.returns-then-alone
returns-then-alone c = wrote-same (word_none _ _ c.args.kind (c.has-alone.ensures ∙ sets_name_only c.args.call) c.if-alone.true)
