-- The name alone, or the three texts one after another.
use mathlib.Core.Path.{◌∙◌}
use Rattle.pen.proofs.Laws.{◌▹◌, wrote_by}
use Rattle.context.proofs.Laws.{sets_name_only}
use Rattle.leaf_writers.proofs.SignsLaws.{named-alone, named-behind}
use Rattle.leaf_writers.proofs.named.emit_named.Goals as goal

pub returns-then-has : goal.returns-then-has
returns-then-has c = wrote_by c.emit_shown.ensures (named-alone _ _ _ _ (c.has.ensures ∙ sets_name_only c.args.call) c.if-has.true)

pub returns : goal.returns
returns c = wrote_by (c.text-q.ensures ▹ c.text-r.ensures ▹ c.emit_shown-2.ensures) (named-behind _ _ _ _ (c.has.ensures ∙ sets_name_only c.args.call) c.if-has.false)
