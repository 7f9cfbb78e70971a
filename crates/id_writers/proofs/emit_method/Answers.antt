-- The parts one after another, as the rule has them.
use Rattle.pen.proofs.Laws.{wrote_none}
use Rattle.context.proofs.Opening.{plain, ◌▸▸◌, writes-by}
use Rattle.emit.specs.Walking.{method_of}
use Rattle.id_writers.proofs.Laws.{method-named}
use Rattle.id_writers.proofs.emit_method.Goals as goal

pub returns : goal.returns
returns c = writes-by (c.emit_method_start-a.ensures ▸▸ plain wrote_none ▸▸ plain c.emit_name_str-b.ensures ▸▸ c.emit_method_args.ensures) (method-named _ _ _ (method_of c.args.m) _)
