-- The line is short enough for the buffer.
use Rattle.std.proofs.Common.{rules}
use Rattle.sheet.proofs.SheetLaws.{line-whole, whole-named, refused-room}
use Rattle.sheet.proofs.line.refused_line.Goals as goal

pub returns : goal.returns
returns c = whole-named (line-whole c.start-p.ensures c.emit_refused-q.ensures (refused-room _ _ (search rules)))
