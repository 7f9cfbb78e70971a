-- The check of the stream is handed on as it came; demand 3 is a theorem of the rules.
use borrow.Author.Rules.{rules}
use mathlib.Core.Path.{◌∙◌, ap}
use Rattle.rules.proofs.Demand.{function-demand}
use Rattle.checked_calls.specs.Answers.{laid}
use Rattle.checked_calls.proofs.CallsLaws.{function-over}
use Rattle.type_formatter.proofs.format_function.Reads as reads
use Rattle.type_formatter.proofs.format_function.Lts as lts
use Rattle.checked_calls.proofs.calls.function_over.Reads as function-over-reads
use Rattle.checked_calls.proofs.kept.keep_types.Reads as keep-types-reads
use Rattle.type_formatter.proofs.format_function.Goals as goal

pub returns : goal.returns
returns c = record { result_after = c.function_over.ensures ∙ ap (laid _) (function-over _ _ c.keep_types-bounds.ensures _ _ _ _ _); function_demand = function-demand _ _ _ _ _ }
