-- A turn copies one byte more, and at the end all are copied.
use Rattle.std.proofs.Common.{arith}
use lib.ListN.{length-set}
use Rattle.wire.proofs.Laws.{copy-turn, copy-all}
use Rattle.wire.proofs.bytes.copy.Goals as goal

pub loop-i-preserved : goal.loop-i-preserved
loop-i-preserved c = (simp length-set c.loop-i.invariant.0, copy-turn c.loop-i.to c.args.s.now c.loop-i.i c.loop-i.invariant.0 (omega (arith, c.requires)) c.loop-i.invariant.1)

pub returns : goal.returns
returns c = copy-all _ c.args.s.now _ c.loop-i.invariant.0 (omega (arith, c.requires)) c.loop-i.invariant.1
