-- The buffer is as the pass left it, and its answer is reported.
use Rattle.yokberd.proofs.Laws.{pass-left}
use borrow.Author.Rules.{rules}
use Rattle.yokberd.proofs.yokberd_fill_places.Goals as goal

pub returns : goal.returns
returns c = let e = pass-left _ _ _ c.fill_places-a.ensures c.report_count.ensures.pass in record { filled_after = e.0; places_after = e.1 }
