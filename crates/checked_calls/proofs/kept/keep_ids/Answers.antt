-- The places are noted behind the first 19 numbers, which are then stored.
use native.Mathlib.Omega.{arith}
use Prim.Native.Nat.{◌-◌}
use mathlib.Core.Path.{refl}
use lib.ListN.{length}
use Rattle.checked_calls.proofs.Keeping.{kept-beside}
use borrow.Author.Rules.{rules}
use Rattle.checked_calls.proofs.kept.keep_ids.Goals as goal

pub slice_bounds-check_by-count : goal.slice_bounds-check_by-count
slice_bounds-check_by-count c = omega (arith, c.requires)

pub slice_bounds-check_by-start : goal.slice_bounds-check_by-start
slice_bounds-check_by-start c = omega (arith, c.requires)

pub slice_bounds-check_by-end : goal.slice_bounds-check_by-end
slice_bounds-check_by-end c = omega (arith, c.requires)

pub returns : goal.returns
returns c = kept-beside _ _ _ c.args.kept.now c.check_by-b.new.places _ _ (length c.args.kept.now - 19) c.requires.0 c.bounds_of.ensures (search rules) refl refl c.check_by-b.ensures c.store.ensures
