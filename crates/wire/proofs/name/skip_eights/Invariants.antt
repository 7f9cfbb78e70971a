-- The invariant: looking on behind the eights that are passed finds the end of the name that was asked for.
use Rattle.std.proofs.Common.{◌≡◌, ◌+◌, ◌*◌}
use Rattle.wire.specs.Name.{name_end}
use Rattle.wire.proofs.name.skip_eights.Given as goal

abbrev pub invariant-loop-i : goal.invariant-loop-i
invariant-loop-i l = name_end l.s l.at ≡ name_end l.s (l.at + 8 * l.i)
