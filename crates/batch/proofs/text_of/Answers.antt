-- A type or an id.
use borrow.Author.Rules.{rules}
use mathlib.Core.Path.{◌∙◌}
use Rattle.batch.proofs.BatchLaws.{by-types, by-ids}
use Rattle.batch.proofs.text_of.Goals as goal

pub returns-in-Types : goal.returns-in-Types
returns-in-Types c = c.type_text.ensures ∙ by-types _ _ _ _ _ _ _ _ c.in-Types.is

pub returns-in-Ids : goal.returns-in-Ids
returns-in-Ids c = c.id_text.ensures ∙ by-ids _ _ _ _ _ _ _ _ c.in-Ids.is
