use Rattle.std.proofs.Common.{refl, arith}
use Rattle.std.proofs.lemmas.Grind.{common_steps}
use Rattle.streams.proofs.Traced.{quad_start, quad_note, quad_next, quad_ends}
use Rattle.streams.proofs.short.abreast.Goals as goal

pub loop-k-init : goal.loop-k-init
loop-k-init c = (quad_start _ _ _ _ _ _, rw c.goals_of-goals.ensures c.requires.2, record { first = refl; second = refl; third = refl; fourth = refl })

pub loop-k-preserved : goal.loop-k-preserved
loop-k-preserved c = (
  quad_next _ _ (quad_note _ _ c.loop-k.invariant.0 (omega arith) (omega arith) (omega arith) (omega arith)) c.in-Some.ensures,
  c.in-Some.ensures.low,
  record { first = grind (arith, common_steps); second = grind (arith, common_steps); third = grind (arith, common_steps); fourth = grind (arith, common_steps) },
)
