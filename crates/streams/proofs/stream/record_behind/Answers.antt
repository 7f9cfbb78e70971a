use Rattle.std.proofs.Common.{sym, ◌∙◌, arith}
use Rattle.streams.proofs.Records.{behind_next}
use Rattle.streams.proofs.stream.record_behind.Goals as goal

pub loop-preserved : goal.loop-preserved
loop-preserved c = sym (behind_next _ _ _ _ _ (omega arith) (omega arith) (omega arith) (omega arith)) ∙ c.loop.invariant
