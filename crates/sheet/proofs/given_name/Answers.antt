-- A name's end does not lie before its start.
use Rattle.std.proofs.Common.{◌∙◌}
use Rattle.sheet.proofs.SheetLaws.{given-name, name-after}
use Rattle.sheet.proofs.given_name.Goals as goal

pub overflow_sub-end : goal.overflow_sub-end
overflow_sub-end c = name-after _ _ c.name_end-end.ensures

pub returns : goal.returns
returns c = c.name_of.ensures ∙ given-name _ _ c.name_end-end.ensures
