-- The kind, widened.
use Rattle.rules.specs.Text.{unhandled_type}
use Rattle.leaf_writers.proofs.marks.unhandled_type.Goals as goal

pub returns : goal.returns
unfolding unhandled_type
returns c = rw c.from.ensures at c.around.ensures
