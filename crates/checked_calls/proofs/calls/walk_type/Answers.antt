-- The walk where the checks are good, and the refusal where they are not.
use Rattle.context.proofs.Opening.{wrote-first}
use Rattle.checked_calls.proofs.CallsLaws.{type-good, type-refused}
use borrow.Author.Rules.{rules}
use Rattle.checked_calls.proofs.calls.walk_type.Goals as goal

pub returns-in-Ok : goal.returns-in-Ok
returns-in-Ok c = type-good _ _ _ _ c.check_call.ensures _ c.args.limit c.in-Ok.is (wrote-first c.emit_type_index.ensures (search rules)) c.start-a.ensures

pub returns-in-Err : goal.returns-in-Err
returns-in-Err c = type-refused _ _ _ _ c.check_call.ensures _ c.args.limit c.in-Err.is c.refuse.ensures c.start-a.ensures
