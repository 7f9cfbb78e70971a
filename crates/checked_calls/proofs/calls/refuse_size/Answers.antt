-- By what the checks came to.
use Rattle.checked_calls.proofs.CallsLaws.{unsized_is}
use borrow.Author.Rules.{rules}
use Rattle.checked_calls.proofs.calls.refuse_size.Goals as goal

pub returns : goal.returns
returns c = rw c.place_refusal.ensures (unsized_is _ _)
