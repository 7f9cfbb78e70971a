-- The digits still to come, and those that stand at the end, are the number.
use mathlib.Core.Path.{◌≡◌}
use mathlib.Core.List.{◌++◌}
use lib.ListN.{length, drop}
use Rattle.rules.specs.Text.{numeral}
use Rattle.leaf_writers.proofs.numbers.digits.Given as goal

abbrev pub invariant-loop-at : goal.invariant-loop-at
invariant-loop-at l = numeral l.base (length l.initial.buf) l.n ≡ numeral l.base l.at l.rest ++ drop l.at l.buf
