-- A result is hidden by the flags or since there is none.
use Rattle.context.proofs.Opening.{writes-by}
use Rattle.id_writers.proofs.Laws.{result-is}
use Rattle.id_writers.proofs.emit_result.Goals as goal

pub returns : goal.returns
returns c = writes-by c.emit_return_type.ensures (result-is _ _ _ _ _ _ _ c.is_void.ensures c.hides_return-none.ensures)
