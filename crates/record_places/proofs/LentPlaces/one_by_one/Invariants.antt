-- The invariant: what the entries from here on come to, all come to.
use Rattle.std.proofs.Common.{◌-◌, ◌*◌}
use Rattle.record_places.specs.Comparing.{Comparing}
use Rattle.record_places.proofs.LentPlaces.one_by_one.Given as goal

abbrev pub invariant-loop-k : goal.invariant-loop-k
invariant-loop-k l = Comparing l.self.records.now l.self.count l.self.places.now l.at (l.self.count - l.k * 64) l.k
