-- Each id of a chain has an allowance smaller by one than the one before; the writers of one follow one another.
use Rattle.std.proofs.Common.{◌+◌, ◌*◌}
use Rattle.id_writers.proofs.+scopes.Given as goal

abbrev pub decreases-emit_function_id : goal.decreases-emit_function_id
decreases-emit_function_id l = 3 * l.allowance + 2

abbrev pub decreases-emit_id : goal.decreases-emit_id
decreases-emit_id l = 3 * l.allowance

abbrev pub decreases-emit_scope : goal.decreases-emit_scope
decreases-emit_scope l = 3 * l.allowance + 1
