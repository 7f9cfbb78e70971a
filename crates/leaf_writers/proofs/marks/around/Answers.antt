-- Three texts, one after another.
use Rattle.pen.proofs.Laws.{◌▹◌}
use Rattle.leaf_writers.proofs.marks.around.Goals as goal

pub returns : goal.returns
returns c = c.text-a.ensures ▹ c.hex-b.ensures ▹ c.text.ensures
