-- The levels from n on are on the page.
use Prim.Native.Nat.{◌≤◌}
use mathlib.Core.Path.{◌≡◌}
use lib.ListN.{drop}
use Rattle.rules.specs.Text.{brackets}
use Rattle.pen.specs.Page.{page, Wrote, writing}
use Rattle.leaf_writers.specs.Signs.{inside}
use Rattle.leaf_writers.proofs.brackets.emit_brackets.Given as goal

abbrev pub invariant-loop-n : goal.invariant-loop-n
invariant-loop-n l = (l.n ≤ 32) × (l.n ≤ l.o.left → drop l.n l.o.items ≡ drop l.o.left l.o.items) × Wrote (page l.initial.out l.initial.q) (writing (brackets (inside l.o.items l.o.left l.size l.n) (drop l.n l.o.items))) (page l.out l.q)
