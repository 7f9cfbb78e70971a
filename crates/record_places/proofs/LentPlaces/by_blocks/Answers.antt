use native.Mathlib.Omega.{arith}
use Rattle.record_places.proofs.Laws.{block-known}
use Rattle.record_places.proofs.LentPlaces.by_blocks.Goals as goal

pub loop-known-preserved : goal.loop-known-preserved
loop-known-preserved c = block-known _ _ _ _ c.loop-known.invariant (cc) _ (c.block_leads.ensures c.if-not-block_leads.false) (omega arith)
