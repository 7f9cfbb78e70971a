use native.Mathlib.Omega.{arith}
use Rattle.record_places.proofs.Laws.{none-known}
use Rattle.record_places.proofs.check_placed.Goals as goal

pub by_blocks-far-requires : goal.by_blocks-far-requires
by_blocks-far-requires c = (omega arith, omega arith, none-known _ _ _)
