-- Both ways note what the definition asks.
use borrow.Author.Rules.{rules}
use Rattle.checked_calls.proofs.kept.check_by.Goals as goal

pub returns-then-stride-eq0 : goal.returns-then-stride-eq0
returns-then-stride-eq0 c = c.check_stream.ensures

pub returns : goal.returns
returns c = c.check_with_stride.ensures

pub shape_of-places-then-stride-eq0 : goal.shape_of-places-then-stride-eq0
shape_of-places-then-stride-eq0 c = c.check_stream.ensures.sized

pub shape_of-places : goal.shape_of-places
shape_of-places c = c.check_with_stride.ensures.sized
