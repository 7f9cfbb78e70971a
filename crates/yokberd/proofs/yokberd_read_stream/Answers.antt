-- The bytes and what is told are those of the call.
use borrow.Author.Rules.{rules}
use Rattle.yokberd.proofs.Laws.{stream-left}
use Rattle.yokberd.proofs.yokberd_read_stream.Goals as goal

pub returns : goal.returns
returns c = let e = stream-left _ _ _ c.read_stream-a.ensures c.report_stream.ensures in record { len_after = e.0; out_after = e.1 }
