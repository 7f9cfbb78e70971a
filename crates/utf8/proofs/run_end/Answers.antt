use Rattle.std.proofs.Common.{arith}
use Rattle.utf8.proofs.Laws.{run-past_part, run-at_part, run_none}
use Rattle.utf8.proofs.run_end.Goals as goal

pub returns-in_default : goal.returns-in_default
returns-in_default c = omega (arith, c.loop-at.invariant.1, run-at_part c.args.s.now c.loop-at.at c.loop-at-test.true _ c.in_default.ensures)

pub overflow_add-at : goal.overflow_add-at
overflow_add-at c = omega (arith, run-past_part c.args.s.now c.loop-at.at c.loop-at-test.true _ c.in-Ok.ensures)

pub loop-at-preserved : goal.loop-at-preserved
loop-at-preserved c = (omega arith, omega (arith, c.loop-at.invariant.1, run-past_part c.args.s.now c.loop-at.at c.loop-at-test.true _ c.in-Ok.ensures))

pub returns : goal.returns
returns c = omega (arith, c.loop-at.invariant.1, run_none c.args.s.now c.loop-at.at c.loop-at-test.false)
