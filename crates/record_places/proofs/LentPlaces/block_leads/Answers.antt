use native.Mathlib.Omega.{arith}
use Rattle.record_places.proofs.Laws.{led-all}
use Rattle.record_places.proofs.LentPlaces.block_leads.Goals as goal

pub returns : goal.returns
returns c = λ h. led-all _ _ _ _ _ c.requires.1 c.loop-j-test.false (omega arith) c.loop-j.invariant
