-- The invariant: so many records are passed, and the next stands here.
use Rattle.std.proofs.Common.{◌≡◌, Some, None}
use Rattle.streams.specs.Stream.{passed}
use Rattle.streams.proofs.stream.behind_records.Given as goal

abbrev pub invariant-loop : goal.invariant-loop
invariant-loop l = passed l.counter l.s l.from Some None ≡ Some l.at
