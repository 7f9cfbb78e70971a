-- The invariant: looking on from here finds the end of the name that was asked for.
use Rattle.std.proofs.Common.{◌≡◌, ◌≤◌}
use Rattle.wire.specs.Name.{name_end}
use Rattle.wire.proofs.name.name_at.Given as goal

abbrev pub invariant-loop-end : goal.invariant-loop-end
invariant-loop-end l = (l.at ≤ l.end) × (name_end l.s l.at ≡ name_end l.s l.end)
