use Rattle.std.proofs.Common.{refl, arith}
use Rattle.streams.proofs.Chained.{stretched_start, stretched_next}
use Rattle.streams.proofs.chains.in_step.Goals as goal

pub loop-n-init : goal.loop-n-init
loop-n-init c = (stretched_start _ _ _, c.requires)

pub loop-n-preserved : goal.loop-n-preserved
loop-n-preserved c = (stretched_next _ _ _ _ _ _ _ c.loop-n.invariant.0 (omega arith) c.in-Some.ensures, c.in-Some.ensures.low)
