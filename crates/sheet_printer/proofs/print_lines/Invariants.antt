-- The invariant: the turns from here on are all turns from the start, and those before were turns that went on. The measure is the number of lines that are left.
use Rattle.std.proofs.Common.{◌-◌, length}
use Rattle.sheet.specs.Sheet.{sheet_lines}
use Rattle.sheet_printer.proofs.Laws.{Turning, Made}
use Rattle.sheet_printer.proofs.print_lines.Given as goal

abbrev pub invariant-loop-p : goal.invariant-loop-p
invariant-loop-p g l = Turning (sheet_lines l.types l.ids l.sheet) l.initial.out l.out l.skip × Made (sheet_lines l.types l.ids l.sheet) l.initial.out l.out l.skip

abbrev pub decreases-loop-p : goal.decreases-loop-p
decreases-loop-p g l = length (sheet_lines l.types l.ids l.sheet) - l.skip
