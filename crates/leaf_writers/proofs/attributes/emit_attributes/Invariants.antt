-- What is on the page, and the levels from i on, make all levels.
use mathlib.Core.Path.{◌≡◌}
use mathlib.Core.List.{map}
use lib.ListN.{drop}
use Rattle.rules.specs.Text.{levels}
use Rattle.pen.specs.Page.{page, read_page, ink}
use Rattle.context.specs.Context.{settings_of, level_at}
use Rattle.leaf_writers.proofs.attributes.emit_attributes.Given as goal

abbrev pub invariant-loop-i : goal.invariant-loop-i
invariant-loop-i l = ink (read_page (page l.out l.q)) (levels (settings_of l.call) l.f l.s (map level_at (drop l.i l.o.items))) ≡ ink (read_page (page l.initial.out l.initial.q)) (levels (settings_of l.call) l.initial.f l.initial.s (map level_at (drop l.o.left l.o.items)))
