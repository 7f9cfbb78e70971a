-- The name stands in the sheet; the text is written to its place in the line.
use Rattle.std.proofs.Common.{rules, ap, ◌∙◌, drop}
use Rattle.sheet.specs.Line.{outcome_line}
use Rattle.sheet.proofs.SheetLaws.{answer-behind, answer-fits, part_length, function-room}
use Rattle.sheet.proofs.function_line.Goals as goal

pub answer_line-requires : goal.answer_line-requires
answer_line-requires c = answer-fits c.args.line.now (search rules) c.function_over-a.new.out _ _ c.function_over-a.ensures (search rules)

pub returns : goal.returns
returns c = c.answer_line.ensures ∙ answer-behind _ _ c.function_over-a.new.out _ _ c.function_over-a.ensures (search rules) c.args.line.now (drop 4096 (drop 27 c.args.line.now)) (search rules) ∙ ap (outcome_line _) (function-room _ _ _ _ _ _ _ c.given_name-name.ensures (part_length c.args.line.now (search rules)))
