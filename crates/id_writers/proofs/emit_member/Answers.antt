-- The parts one after another, as the rule has them.
use Rattle.context.proofs.Opening.{plain, ◌▸▸◌, writes-by}
use Rattle.emit.specs.Walking.{method_of}
use Rattle.id_writers.proofs.Laws.{member-named}
use Rattle.id_writers.proofs.emit_member.Goals as goal

pub returns : goal.returns
returns c = writes-by (c.emit_method_start-a.ensures ▸▸ c.emit_type_index-b.ensures ▸▸ plain c.text-c.ensures ▸▸ plain c.emit_shown_str-d.ensures ▸▸ c.emit_method_args.ensures) (member-named _ _ _ (method_of c.args.m) _ _)
