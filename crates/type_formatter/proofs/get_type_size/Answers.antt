-- The check of the stream is handed on as it came; that the walk ends is a theorem of the rules.
use borrow.Author.Rules.{rules}
use mathlib.Core.Path.{◌∙◌, ap}
use Rattle.rules.specs.Call.{of_size}
use Rattle.rules.proofs.Demand.{size-ends}
use Rattle.checked_calls.proofs.CallsLaws.{size-over}
use Rattle.type_formatter.proofs.get_type_size.Reads as reads
use Rattle.type_formatter.proofs.get_type_size.Lts as lts
use Rattle.checked_calls.proofs.calls.size_over.Reads as size-over-reads
use Rattle.checked_calls.proofs.kept.keep_types.Reads as keep-types-reads
use Rattle.type_formatter.proofs.get_type_size.Goals as goal

pub returns : goal.returns
returns c = record { result_value = c.size_over.ensures ∙ ap of_size (size-over _ _ c.keep_types-bounds.ensures _ _); size_finished = size-ends _ _ _ }
