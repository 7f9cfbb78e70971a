-- The invariant: so many entries are right. The measure is how many are not known.
use Rattle.std.proofs.Common.{◌-◌}
use Rattle.record_places.specs.Comparing.{Begun}
use Rattle.record_places.proofs.LentPlaces.by_blocks.Given as goal

abbrev pub invariant-loop-known : goal.invariant-loop-known
invariant-loop-known l = Begun l.self.records.now l.self.count l.self.places.now l.known

abbrev pub decreases-loop-known : goal.decreases-loop-known
decreases-loop-known l = l.entries - l.known.k
