-- The invariant: what is printed so far, and what fits of the lines from the state on, is what fits of all. The measure is what is left of the sheet.
use Rattle.std.proofs.Common.{◌-◌, length}
use Rattle.rules.specs.Places.{near_in}
use Rattle.sheet.specs.Sheet.{calls_over}
use Rattle.sheet.proofs.SheetLaws.{Going}
use Rattle.sheet.proofs.put_lines.Given as goal

abbrev pub invariant-loop-s : goal.invariant-loop-s
invariant-loop-s l = Going (calls_over l.lent.types.now l.lent.ids.now (near_in l.lent)) l.sheet l.initial.out l.skip l.out l.at l.s

abbrev pub decreases-loop-s : goal.decreases-loop-s
decreases-loop-s l = length l.sheet - l.s.at
