-- The name is that of the kind that was found.
use mathlib.Core.Path.{ap}
use Rattle.pen.specs.Page.{writing}
use Rattle.pen.proofs.Laws.{wrote_by}
use Rattle.leaf_writers.proofs.NamesLaws.{kind-name}
use Rattle.leaf_writers.proofs.names.emit_kind.Goals as goal

pub returns : goal.returns
returns c = wrote_by c.text.ensures (ap writing (kind-name _ _ c.kind_name.ensures.0))
