-- A size is what the walk of the size writes, and a chain that is too long is refusal 14.
use borrow.Author.Rules.{rules}
use mathlib.Core.Path.{ap}
use Rattle.checked_calls.proofs.CallsLaws.{size_said, size_is_lem, size-refused}
use Rattle.checked_calls.proofs.calls.size_over.Goals as goal

pub returns-in-Ok-get_type_size : goal.returns-in-Ok-get_type_size
returns-in-Ok-get_type_size c = size_is_lem _ _ _ _ c.check_types.ensures c.in-Ok.is c.get_type_size.ensures (ap size_said c.in-Ok-get_type_size.is)

pub returns-in-Err-get_type_size : goal.returns-in-Err-get_type_size
returns-in-Err-get_type_size c = size_is_lem _ _ _ _ c.check_types.ensures c.in-Ok.is c.get_type_size.ensures (ap size_said c.in-Err-get_type_size.is)

pub returns-in-Err : goal.returns-in-Err
returns-in-Err c = size-refused _ _ _ _ c.check_types.ensures c.in-Err.is
