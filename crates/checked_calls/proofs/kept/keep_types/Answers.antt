-- What the check noted is kept, and all places are the types'.
use Rattle.checked_calls.proofs.Keeping.{kept-one}
use borrow.Author.Rules.{rules}
use Rattle.checked_calls.proofs.kept.keep_types.Goals as goal

pub returns : goal.returns
returns c = kept-one _ _ _ c.bounds_of.ensures _ _ _ c.check_stream-a.ensures

pub shape_of-places : goal.shape_of-places
shape_of-places c = c.check_stream-a.ensures.sized
