-- The parts one after another, as the rule has them.
use Rattle.pen.proofs.Laws.{wrote_none}
use Rattle.context.proofs.Opening.{plain, ◌▸▸◌, writes-by}
use Rattle.context.proofs.Laws.{sets_no_arguments}
use Rattle.std.proofs.Common.{◌∙◌}
use Rattle.id_writers.proofs.Laws.{arguments-hidden, arguments-shown}
use Rattle.id_writers.proofs.emit_arguments.Goals as goal

pub returns-then-has : goal.returns-then-has
returns-then-has c = writes-by (plain wrote_none) (arguments-hidden _ _ _ _ (c.has.ensures ∙ sets_no_arguments _) c.if-has.true)

pub returns : goal.returns
returns c = writes-by (plain c.text-a.ensures ▸▸ c.emit_type_index-b.ensures ▸▸ plain c.text.ensures) (arguments-shown _ _ _ _ (c.has.ensures ∙ sets_no_arguments _) c.if-has.false)
