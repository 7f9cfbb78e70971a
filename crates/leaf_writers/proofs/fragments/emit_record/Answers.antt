-- Nothing for any other kind.
use Rattle.pen.proofs.Laws.{wrote-same}
use Rattle.leaf_writers.proofs.FragmentsLaws.{record-none}
use Rattle.leaf_writers.proofs.fragments.emit_record.Goals as goal

pub returns-in_default : goal.returns-in_default
returns-in_default c = wrote-same (record-none _ _ c.args.t c.in_default.not-Class c.in_default.not-Union c.in_default.not-Enumeration c.in_default.not-Enumerate c.in_default.not-Unhandled)
