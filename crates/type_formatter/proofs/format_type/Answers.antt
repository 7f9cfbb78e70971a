-- The check of the stream is handed on as it came; demand 3 is a theorem of the rules.
use borrow.Author.Rules.{rules}
use mathlib.Core.Path.{◌∙◌, ap}
use Rattle.rules.proofs.Demand.{type-demand}
use Rattle.checked_calls.specs.Answers.{laid}
use Rattle.checked_calls.proofs.CallsLaws.{type-over}
use Rattle.type_formatter.proofs.format_type.Reads as reads
use Rattle.type_formatter.proofs.format_type.Lts as lts
use Rattle.checked_calls.proofs.calls.type_over.Reads as type-over-reads
use Rattle.checked_calls.proofs.kept.keep_types.Reads as keep-types-reads
use Rattle.type_formatter.proofs.format_type.Goals as goal

pub returns : goal.returns
returns c = record { result_after = c.type_over.ensures ∙ ap (laid _) (type-over _ _ c.keep_types-bounds.ensures _ _ _ _); type_demand = type-demand _ _ _ _ }
