-- The same beside the check of the ids.
use Rattle.checked_calls.proofs.Keeping.{lent-beside}
use borrow.Author.Rules.{rules}
use Rattle.checked_calls.proofs.kept.keep_lent_ids.Goals as goal

pub keep_ids-requires : goal.keep_ids-requires
keep_ids-requires c = c.requires

pub returns : goal.returns
returns c = λ types ps h. lent-beside _ _ _ _ c.by_lent.ensures c.keep_ids.ensures types ps h

pub shape_of-kept : goal.shape_of-kept
shape_of-kept c = c.keep_ids.ensures.sized
