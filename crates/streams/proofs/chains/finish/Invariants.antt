-- The invariant: the chain is linked, in a part as long as it was. The measure is how far its goal is.
use Rattle.std.proofs.Common.{◌≡◌, ◌-◌, length}
use Rattle.streams.specs.Chains.{Linked}
use Rattle.streams.proofs.chains.finish.Given as goal

abbrev pub invariant-loop-at : goal.invariant-loop-at
invariant-loop-at l = Linked l.s l.from l.stride l.part l.at l.pace × (length l.part ≡ length l.initial.part)

abbrev pub decreases-loop-at : goal.decreases-loop-at
decreases-loop-at l = l.goal - l.at
