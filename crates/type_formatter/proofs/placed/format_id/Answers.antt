-- With the places of the stream the call is the plain one, by them; with others 17 follows from its checks.
use mathlib.Core.Path.{sym, ◌∙◌, ap}
use Rattle.checked_calls.specs.Answers.{laid}
use Rattle.checked_calls.proofs.CallsLaws.{id-lent, id-unlent}
use Rattle.rules.proofs.PlacedCalls.{id-placed-demand}
use borrow.Author.Rules.{rules}
use Rattle.type_formatter.proofs.placed.format_id.Goals as goal

pub returns-in-Ok : goal.returns-in-Ok
returns-in-Ok c = record { result_after = c.id_over.ensures ∙ ap (laid _) (id-lent _ _ _ (c.keep_lent_ids.ensures c.args.types.now c.args.places.now c.check_placed-c.ensures.0).0 (sym c.check_placed-c.ensures.1 ∙ c.in-Ok.is) _ (c.keep_lent_ids.ensures c.args.types.now c.args.places.now c.check_placed-c.ensures.0).1 _ _ _ _); id_placed_demand = id-placed-demand _ _ _ _ _ _ }

pub returns-in-Err : goal.returns-in-Err
returns-in-Err c = record { result_after = (rw c.check_id_call.ensures at c.refuse_place.ensures) ∙ ap (laid _) (id-unlent _ _ _ (c.keep_lent_ids.ensures c.args.types.now c.args.places.now c.check_placed-c.ensures.0).0 _ (sym c.check_placed-c.ensures.1 ∙ c.in-Err.is) _ (c.keep_lent_ids.ensures c.args.types.now c.args.places.now c.check_placed-c.ensures.0).1 _ _ _ _); id_placed_demand = id-placed-demand _ _ _ _ _ _ }
