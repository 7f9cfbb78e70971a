-- The bytes that were counted lie in the buffer.
use Rattle.std.proofs.Common.{sym}
use lib.Seq.{length-take-le}
use Rattle.sheet_printer.proofs.Laws.{bytes-within}
use Rattle.sheet_printer.proofs.print_some.Goals as goal

pub slice_bounds-say-end : goal.slice_bounds-say-end
slice_bounds-say-end g c = bytes-within _ _ c.print_sheet-p.ensures.result_after

pub slice_bounds-say-end-2 : goal.slice_bounds-say-end-2
slice_bounds-say-end-2 g c = sym (length-take-le _ _ (bytes-within _ _ c.print_sheet-p.ensures.result_after))
