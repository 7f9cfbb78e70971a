-- The invariant: the places of as many records of each chain as are passed are noted, and each is before its goal.
use Rattle.std.proofs.Common.{◌≡◌}
use Rattle.streams.specs.Chains.{Apart, Sized}
use Rattle.streams.specs.Short.{Quad}
use Rattle.streams.proofs.short.abreast.Given as goal

abbrev pub invariant-loop-k : goal.invariant-loop-k
invariant-loop-k l = Quad l.s l.fn.starts l.a l.b l.c l.d l.at l.k l.k × Apart l.s l.at l.goals × Sized l.initial.a l.initial.b l.initial.c l.initial.d l.a l.b l.c l.d
