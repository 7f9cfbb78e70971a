-- The call over what the buffer keeps; kept of the same bytes it is the plain one.
use mathlib.Core.Path.{◌∙◌, ap}
use Rattle.rules.specs.Call.{of_size}
use Rattle.checked_calls.proofs.CallsLaws.{size-over}
use borrow.Author.Rules.{rules}
use Rattle.type_formatter.proofs.checked.get_type_size.Goals as goal

pub returns : goal.returns
returns c = let e = (rw (c.kept_lent-lent.ensures.types, c.kept_lent-lent.ensures.kept) at c.size_over.ensures) in record { result_value = e; result_value_2 = λ k. e ∙ ap of_size (size-over _ _ k _ _) }
