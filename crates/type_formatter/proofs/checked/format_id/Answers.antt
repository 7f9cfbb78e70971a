-- The call over what the buffer keeps; kept of the same bytes it is the plain one.
use mathlib.Core.Path.{◌∙◌, ap}
use Rattle.checked_calls.specs.Answers.{laid}
use Rattle.checked_calls.proofs.CallsLaws.{id-over}
use borrow.Author.Rules.{rules}
use Rattle.type_formatter.proofs.checked.format_id.Goals as goal

pub returns : goal.returns
returns c = let e = (rw (c.kept_lent-lent.ensures.types, c.kept_lent-lent.ensures.ids, c.kept_lent-lent.ensures.kept) at c.id_over.ensures) in record { result_after = e; result_after_2 = λ k. e ∙ ap (laid _) (id-over _ _ k.of_types _ k.of_ids _ _ _ _) }
