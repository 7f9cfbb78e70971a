-- The kind, widened.
use Rattle.rules.specs.Text.{unhandled_scope}
use Rattle.leaf_writers.proofs.marks.unhandled_scope.Goals as goal

pub returns : goal.returns
unfolding unhandled_scope
returns c = rw c.from.ensures at c.around.ensures
