-- What both checks noted is kept.
use Rattle.checked_calls.proofs.Keeping.{kept-both}
use borrow.Author.Rules.{rules}
use Rattle.checked_calls.proofs.kept.keep_both.Goals as goal

pub keep_ids-requires : goal.keep_ids-requires
keep_ids-requires c = c.requires

pub returns : goal.returns
returns c = kept-both _ _ _ _ _ _ _ c.check_stream-a.ensures c.keep_ids.ensures

pub shape_of-kept : goal.shape_of-kept
shape_of-kept c = c.keep_ids.ensures.sized

pub shape_of-places : goal.shape_of-places
shape_of-places c = c.check_stream-a.ensures.sized
