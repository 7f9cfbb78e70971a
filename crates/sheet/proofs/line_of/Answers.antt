-- A text is written to its place in the line.
use Rattle.std.proofs.Common.{rules, ap, ◌∙◌, drop}
use Rattle.sheet.specs.Line.{outcome_line}
use Rattle.sheet.specs.Sheet.{line_of}
use Rattle.sheet.proofs.SheetLaws.{answer-behind, answer-fits, part_length, type-room, id-room}
use Rattle.sheet.proofs.line_of.Goals as goal

pub answer_line-requires : goal.answer_line-requires
answer_line-requires c = answer-fits c.args.line.now (search rules) c.type_over-a.new.out _ _ c.type_over-a.ensures (search rules)

pub answer_line-requires-in-IdText : goal.answer_line-requires-in-IdText
answer_line-requires-in-IdText c = answer-fits c.args.line.now (search rules) c.id_over-a.new.out _ _ c.id_over-a.ensures (search rules)

pub returns-in-TypeText : goal.returns-in-TypeText
unfolding line_of
returns-in-TypeText c = rw c.in-TypeText.is (c.answer_line.ensures ∙ answer-behind _ _ c.type_over-a.new.out _ _ c.type_over-a.ensures (search rules) c.args.line.now (drop 4096 (drop 27 c.args.line.now)) (search rules) ∙ ap (outcome_line _) (type-room _ _ _ _ _ (part_length c.args.line.now (search rules))))

pub returns-in-IdText : goal.returns-in-IdText
unfolding line_of
returns-in-IdText c = rw c.in-IdText.is (c.answer_line-in-IdText.ensures ∙ answer-behind _ _ c.id_over-a.new.out _ _ c.id_over-a.ensures (search rules) c.args.line.now (drop 4096 (drop 27 c.args.line.now)) (search rules) ∙ ap (outcome_line _) (id-room _ _ _ _ _ _ (part_length c.args.line.now (search rules))))
