-- The digits from b-index on decide; the number before them is below 2^32.
use Prim.Native.Nat.{◌<◌}
use mathlib.Core.Path.{◌≡◌}
use lib.ListN.{drop}
use Rattle.rules.specs.Text.{hex_below}
use Rattle.leaf_writers.proofs.strings.hex_below.Given as goal

abbrev pub invariant-loop-b : goal.invariant-loop-b
invariant-loop-b l = (l.n < 4_294_967_296) × (hex_below l.n (drop l.b-index l.s) ≡ hex_below 0 l.s)
