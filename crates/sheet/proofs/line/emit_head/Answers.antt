-- Five pieces after each other.
use Rattle.std.proofs.Common.{rules, ◌≡◌}
use Rattle.pen.proofs.Laws.{◌▹◌}
use Rattle.sheet.specs.Line.{head}
use Rattle.sheet.proofs.line.emit_head.Goals as goal

pub returns : goal.returns
unfolding head
returns c =
    let e : c.from.result ≡ c.args.refusal = search rules in
    rw e at (c.decimal-a.ensures ▹ c.text-b.ensures ▹ c.decimal-c.ensures ▹ c.text-d.ensures ▹ c.hex.ensures)
