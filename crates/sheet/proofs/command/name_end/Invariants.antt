-- The invariant: looking on from here finds the end that was asked for.
use Rattle.std.proofs.Common.{◌≡◌, ◌-◌, ◌≤◌}
use Rattle.wire.specs.Name.{zero_from}
use Rattle.sheet.proofs.command.name_end.Given as goal

abbrev pub invariant-loop-end : goal.invariant-loop-end
invariant-loop-end l = (l.at ≤ l.end) × (zero_from 16 l.sheet l.at ≡ zero_from (16 - (l.end - l.at)) l.sheet l.end)
