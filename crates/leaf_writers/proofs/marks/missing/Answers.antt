-- Three texts, one after another, are those of the rule.
use Rattle.rules.specs.Text.{missing_mark}
use Rattle.pen.proofs.Laws.{◌▹◌}
use Rattle.leaf_writers.proofs.marks.missing.Goals as goal

pub returns : goal.returns
unfolding missing_mark
returns c = c.text-a.ensures ▹ c.hex-b.ensures ▹ c.text.ensures
