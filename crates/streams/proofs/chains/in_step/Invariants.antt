-- The invariant: each chain is so many records behind its start, and before its goal.
use Rattle.streams.specs.Chains.{Apart, Stretched}
use Rattle.streams.proofs.chains.in_step.Given as goal

abbrev pub invariant-loop-n : goal.invariant-loop-n
invariant-loop-n l = Stretched l.s l.fn.from l.most (record { at = l.at; n = l.n }) × Apart l.s l.at l.goals
