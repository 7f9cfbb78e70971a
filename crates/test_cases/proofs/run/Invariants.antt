-- The loop ends because the state's place rises to the end of the calls.
use Rattle.std.proofs.Common.{◌-◌, length}
use Rattle.test_cases.proofs.run.Given as goal

abbrev pub decreases-loop-s : goal.decreases-loop-s
decreases-loop-s g l = length l.calls - l.s.at
