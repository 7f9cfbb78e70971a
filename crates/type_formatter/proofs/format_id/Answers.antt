-- The checks of the two streams are handed on as they came; demand 3 is a theorem of the rules.
use borrow.Author.Rules.{rules}
use mathlib.Core.Path.{◌∙◌, ap}
use Rattle.rules.proofs.Demand.{id-demand}
use Rattle.checked_calls.specs.Answers.{laid}
use Rattle.checked_calls.proofs.CallsLaws.{id-over}
use Rattle.type_formatter.proofs.format_id.Reads as reads
use Rattle.type_formatter.proofs.format_id.Lts as lts
use Rattle.checked_calls.proofs.calls.id_over.Reads as id-over-reads
use Rattle.checked_calls.proofs.kept.keep_both.Reads as keep-both-reads
use Rattle.type_formatter.proofs.format_id.Goals as goal

pub returns : goal.returns
returns c = record { result_after = c.id_over.ensures ∙ ap (laid _) (id-over _ _ c.keep_both.ensures.of_types _ c.keep_both.ensures.of_ids _ _ _ _); id_demand = id-demand _ _ _ _ _ }
