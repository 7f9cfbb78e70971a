-- The loop ends because the state's place rises to the sheet's end.
use Rattle.std.proofs.Common.{◌-◌, length}
use Rattle.test_places.proofs.run.Given as goal

abbrev pub decreases-loop-s : goal.decreases-loop-s
decreases-loop-s g l = length l.sheet - l.s.at
