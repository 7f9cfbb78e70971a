-- The walk where the checks are good, and the refusal where they are not.
use Rattle.checked_calls.proofs.CallsLaws.{function-good, function-refused}
use borrow.Author.Rules.{rules}
use Rattle.checked_calls.proofs.calls.walk_function.Goals as goal

pub returns-in-Ok : goal.returns-in-Ok
returns-in-Ok c = function-good _ _ _ _ c.check_call.ensures _ _ c.args.limit c.in-Ok.is c.emit_function.ensures c.start-c.ensures

pub returns-in-Err : goal.returns-in-Err
returns-in-Err c = function-refused _ _ _ _ c.check_call.ensures _ _ c.args.limit c.in-Err.is c.refuse.ensures c.start-c.ensures
