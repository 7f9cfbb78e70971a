-- The invariant: the four chains are linked, an entry of each is due, and the parts are as long as they were. The measure is what is left of the stream.
use Rattle.std.proofs.Common.{◌≡◌, ◌-◌, length}
use Rattle.streams.specs.Chains.{Sized, Together}
use Rattle.streams.proofs.chains.lockstep.Given as goal

abbrev pub invariant-loop-pace : goal.invariant-loop-pace
invariant-loop-pace l = Together l.s l.fn.starts l.stride l.a l.b l.c l.d l.at l.pace × (l.pace.wait ≡ 0) × Sized l.initial.a l.initial.b l.initial.c l.initial.d l.a l.b l.c l.d

abbrev pub decreases-loop-pace : goal.decreases-loop-pace
decreases-loop-pace l = length l.s - l.at.a
