-- The invariant: what holds from an index on holds from the reference on. The measure is what is left of the indexes.
use Prim.Native.Nat.{◌-◌}
use Rattle.rules.specs.Places.{near_in}
use Rattle.queries.proofs.FullLaws.{Ranging}
use Rattle.queries.proofs.scan.get_size_for_forward_reference.Given as goal

abbrev pub invariant-loop-at : goal.invariant-loop-at
invariant-loop-at l = Ranging l.lent.types.now (near_in l.lent) l.name l.own l.stream l.i l.at

abbrev pub decreases-loop-at : goal.decreases-loop-at
decreases-loop-at l = l.stream.end - l.at
