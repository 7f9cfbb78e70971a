use Rattle.std.proofs.Common.{◌∙◌, arith}
use Rattle.streams.proofs.Records.{behind_ends}
use Rattle.streams.proofs.Traced.{traced_next, traced_few, traced_met}
use Rattle.streams.proofs.short.rest.Goals as goal

pub overflow_add-k : goal.overflow_add-k
overflow_add-k c = omega (arith, traced_few _ _ _ _ _ _ (c.loop-at.invariant.0 (omega arith)))

pub loop-at-preserved : goal.loop-at-preserved
loop-at-preserved c = (
  λ h. c.note_in.ensures.traced _ _ (traced_next _ _ _ _ _ _ (c.loop-at.invariant.0 (omega arith)) _ (behind_ends _ _ _ c.two-size.ensures c.if-size-lt2.false h)),
  c.note_in.ensures.sized ∙ c.loop-at.invariant.1,
)
