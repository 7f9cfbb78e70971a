-- The invariant: the levels from the index on, behind the sizes so far, are those of the array. The measure is the room for more.
use Prim.Native.Nat.{◌≤◌}
use mathlib.Core.Path.{◌≡◌}
use Rattle.rules.specs.Places.{near_in}
use Rattle.queries.specs.Arrays.{levels_from, array_info}
use Rattle.queries.proofs.arrays.get_array_info.Given as goal

abbrev pub invariant-loop-t : goal.invariant-loop-t
invariant-loop-t l =
    record {
      room : l.left ≤ 31;
      same : levels_from l.lent.types.now (near_in l.lent) l.left (record { items = l.items; left = l.left }) l.base.0 ≡ array_info l.lent.types.now (near_in l.lent) l.fn.element.0 l.size;
    }

abbrev pub decreases-loop-t : goal.decreases-loop-t
decreases-loop-t l = l.left
