use native.Mathlib.Omega.{arith}
use Rattle.record_places.specs.Comparing.{settled_pass}
use Rattle.record_places.specs.RecordPlaces.{pass_by}
use Rattle.record_places.proofs.Pass.{header_fits, checked_by, filled_as}
use Rattle.record_places.proofs.note_places.Goals as goal

pub returns-then-places-needed : goal.returns-then-places-needed
unfolding settled_pass pass_by
returns-then-places-needed c = grind (arith, header_fits, checked_by, filled_as c.args.types.now _ _ _ c.behind_noting.ensures)

pub returns : goal.returns
unfolding settled_pass pass_by
returns c = grind (arith, header_fits, checked_by, filled_as c.args.types.now _ _ _ c.behind_noting.ensures)
