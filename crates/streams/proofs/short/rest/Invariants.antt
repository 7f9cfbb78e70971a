-- The invariant: inside the stream the chain is traced, in a part as long as it was. The measure is how far its goal is.
use Rattle.std.proofs.Common.{◌≡◌, ◌+◌, ◌-◌, ◌≤◌, length}
use Rattle.streams.specs.Short.{Traced}
use Rattle.streams.proofs.short.rest.Given as goal

abbrev pub invariant-loop-at : goal.invariant-loop-at
invariant-loop-at l = (l.at ≤ length l.s → Traced l.s l.from l.part l.at l.k (l.k + 1)) × (length l.part ≡ length l.initial.part)

abbrev pub decreases-loop-at : goal.decreases-loop-at
decreases-loop-at l = l.until - l.at
