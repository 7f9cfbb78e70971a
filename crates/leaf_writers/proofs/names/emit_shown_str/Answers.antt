-- The empty name, and one of some bytes.
use Rattle.std.proofs.Common.{arith}
use Rattle.std.proofs.lemmas.Grind.{common_steps}
use Rattle.pen.proofs.Laws.{wrote_by}
use Rattle.leaf_writers.proofs.NamesLaws.{shown-omitted, shown-itself}
use Rattle.leaf_writers.proofs.names.emit_shown_str.Goals as goal

pub returns-then-is_empty : goal.returns-then-is_empty
returns-then-is_empty c = wrote_by c.emit_name_str.ensures (shown-omitted _ (grind (arith, common_steps)))

pub returns : goal.returns
returns c = wrote_by c.emit_shown.ensures (shown-itself _ (grind (arith, common_steps)))
