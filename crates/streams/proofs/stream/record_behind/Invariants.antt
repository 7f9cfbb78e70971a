-- The invariant: what stands behind as many as are left from here stands behind all from the start.
use Rattle.std.proofs.Common.{◌≡◌, ◌-◌}
use Rattle.streams.specs.Stream.{record_behind}
use Rattle.streams.proofs.stream.record_behind.Given as goal

abbrev pub invariant-loop : goal.invariant-loop
invariant-loop l = record_behind (l.count - l.counter) l.s l.at ≡ record_behind l.count l.s 0
