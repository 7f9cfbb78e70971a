-- With the places of the stream the call is the plain one, by them; with others 17 follows from its checks.
use mathlib.Core.Path.{sym, ◌∙◌, ap}
use Rattle.rules.specs.Call.{of_size}
use Rattle.checked_calls.proofs.CallsLaws.{size-lent, size-unlent}
use Rattle.rules.proofs.PlacedCalls.{size-as-plain}
use borrow.Author.Rules.{rules}
use Rattle.type_formatter.proofs.placed.get_type_size.Goals as goal

pub returns-in-Ok : goal.returns-in-Ok
returns-in-Ok c = record { result_value = c.size_over.ensures ∙ ap of_size (size-lent _ _ _ (c.keep_lent-bounds.ensures c.args.types.now c.args.places.now c.check_placed-c.ensures.0) (sym c.check_placed-c.ensures.1 ∙ c.in-Ok.is) _ _); size_as_plain = size-as-plain _ _ _ _ }

pub returns-in-Err : goal.returns-in-Err
returns-in-Err c = record { result_value = (rw c.check_types.ensures at c.refuse_size.ensures) ∙ ap of_size (size-unlent _ _ _ (c.keep_lent-bounds.ensures c.args.types.now c.args.places.now c.check_placed-c.ensures.0) _ (sym c.check_placed-c.ensures.1 ∙ c.in-Err.is) _ _); size_as_plain = size-as-plain _ _ _ _ }
