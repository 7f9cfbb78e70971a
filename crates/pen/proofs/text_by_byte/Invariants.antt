-- What is left, written to the page so far, is the whole written to the page at the start.
use mathlib.Core.Path.{◌≡◌}
use lib.ListN.{drop}
use Rattle.pen.specs.Page.{page, read_page, ink}
use Rattle.pen.proofs.text_by_byte.Given as goal

abbrev pub invariant-loop-b : goal.invariant-loop-b
invariant-loop-b l = ink (read_page (page l.out l.q)) (drop l.b-index l.s) ≡ ink (read_page (page l.initial.out l.initial.q)) l.s
