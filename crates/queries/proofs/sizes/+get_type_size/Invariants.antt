-- The measure: the records of the chain that are left.
use Prim.Native.Nat.{◌-◌}
use Rattle.queries.proofs.sizes.+get_type_size.Given as goal

abbrev pub decreases-get_type_size : goal.decreases-get_type_size
decreases-get_type_size l = 33 - l.n
