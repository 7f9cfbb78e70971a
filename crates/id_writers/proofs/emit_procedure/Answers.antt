-- The parts one after another, as the rule has them.
use Rattle.pen.proofs.Laws.{wrote_none}
use Rattle.context.proofs.Opening.{plain, ◌▸▸◌, writes-by}
use Rattle.id_writers.proofs.Laws.{procedure-named}
use Rattle.id_writers.proofs.emit_procedure.Goals as goal

pub returns : goal.returns
returns c = writes-by (c.emit_result-a.ensures ▸▸ plain wrote_none ▸▸ plain c.emit_name_str-b.ensures ▸▸ c.emit_arguments.ensures) (procedure-named _ _ _ c.args.x.result.0 c.args.x.arguments.0 c.args.x.constructor _)
