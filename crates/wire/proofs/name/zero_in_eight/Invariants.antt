-- The invariant: whether a zero stands among the first i of them.
use Rattle.std.proofs.Common.{◌≡◌}
use Rattle.wire.specs.Name.{zero_among}
use Rattle.wire.proofs.name.zero_in_eight.Given as goal

abbrev pub invariant-loop-i : goal.invariant-loop-i
invariant-loop-i l = l.zero ≡ zero_among l.i l.s l.at
