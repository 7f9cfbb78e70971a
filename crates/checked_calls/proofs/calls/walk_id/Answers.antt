-- The walk where the checks are good, and the refusal where they are not.
use Rattle.checked_calls.proofs.CallsLaws.{id-good, id-refused, all_left}
use borrow.Author.Rules.{rules}
use Rattle.checked_calls.proofs.calls.walk_id.Goals as goal

pub emit_id-requires : goal.emit_id-requires
emit_id-requires c = all_left _ _ _ _ c.check_id_call.ensures c.in-Ok.is

pub returns-in-Ok : goal.returns-in-Ok
returns-in-Ok c = id-good _ _ _ _ _ c.check_id_call.ensures _ c.args.limit c.in-Ok.is c.emit_id.ensures c.start-first.ensures

pub returns-in-Err : goal.returns-in-Err
returns-in-Err c = id-refused _ _ _ _ _ c.check_id_call.ensures _ c.args.limit c.in-Err.is c.refuse.ensures c.start-first.ensures
