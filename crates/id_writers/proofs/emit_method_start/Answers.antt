-- The parts one after another, as the rule has them.
use Rattle.context.proofs.Opening.{plain, ◌▸▸◌, writes-by}
use Rattle.emit.specs.Walking.{method_of}
use Rattle.id_writers.proofs.Laws.{method-start}
use Rattle.id_writers.proofs.emit_method_start.Goals as goal

pub returns : goal.returns
returns c = writes-by (plain c.maybe_emit_static-a.ensures ▸▸ c.emit_return_type.ensures) (method-start _ _ _ (method_of c.args.m) _ c.hides_return-hidden.ensures)
