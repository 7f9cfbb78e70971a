-- The three cases: nothing due, no entry left, an entry noted.
use Rattle.std.proofs.Common.{arith}
use Rattle.streams.proofs.Chained.{dued_later, dued_none, dued_now}
use Rattle.streams.proofs.chains.note.Goals as goal

pub returns-then-pace-gt0 : goal.returns-then-pace-gt0
returns-then-pace-gt0 c = dued_later _ _ _ _ (omega arith)

pub returns-then-part-pace : goal.returns-then-part-pace
returns-then-part-pace c = dued_none _ _ _ _ (omega arith) (omega arith)

pub returns : goal.returns
returns c = dued_now _ _ _ _ (omega arith) (omega arith)
