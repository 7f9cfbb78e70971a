-- The fields, by the refusal's own number and detail, and the end of the line.
use Rattle.pen.proofs.Laws.{◌▹◌, wrote_by}
use Rattle.sheet.proofs.LinesLaws.{refused-line}
use Rattle.sheet.proofs.line.emit_refused.Goals as goal

pub returns : goal.returns
returns c = wrote_by (c.emit_head-a.ensures ▹ c.text.ensures) (refused-line _ _ c.number-nr.ensures c.detail-detail.ensures)
