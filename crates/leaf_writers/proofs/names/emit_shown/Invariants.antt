-- The invariant: what is left of the name leads to the page that all of it leads to. The measure is what is left of its bytes.
use Prim.Native.Nat.{◌≤◌, ◌-◌}
use mathlib.Core.Path.{◌≡◌}
use lib.ListN.{length}
use Rattle.pen.specs.Page.{page, read_page}
use Rattle.leaf_writers.proofs.NamesLaws.{Leads}
use Rattle.leaf_writers.proofs.names.emit_shown.Given as goal

abbrev pub invariant-loop-at : goal.invariant-loop-at
invariant-loop-at l = (l.at ≤ length l.name) × Leads (read_page (page l.initial.out l.initial.q)) l.name (read_page (page l.out l.q)) l.at

abbrev pub decreases-loop-at : goal.decreases-loop-at
decreases-loop-at l = length l.name - l.at
