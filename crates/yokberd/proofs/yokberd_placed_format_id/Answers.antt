-- The buffer is as the call left it, and its answer is reported.
use Rattle.yokberd.proofs.Laws.{text-left}
use borrow.Author.Rules.{rules}
use Rattle.yokberd.proofs.yokberd_placed_format_id.Goals as goal

pub returns : goal.returns
returns c = let e = text-left _ _ _ _ (c.format_id-a.ensures.result_after, c.format_id-a.ensures.id_placed_demand) c.report_count.ensures.text in record { written_after = e.0; id_placed_demand = e.1 }
