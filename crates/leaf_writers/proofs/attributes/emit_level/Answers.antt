-- Four texts, one after another.
use mathlib.Core.Path.{◌∙◌}
use Rattle.pen.proofs.Laws.{◌▹◌, wrote_by}
use Rattle.context.proofs.Laws.{sets_space_pointer}
use Rattle.context.specs.Context.{level_of}
use Rattle.leaf_writers.proofs.SignsLaws.{level-is}
use Rattle.leaf_writers.proofs.attributes.emit_level.Goals as goal

pub returns : goal.returns
returns c = wrote_by (c.emit_const-a.ensures ▹ c.text_if-b.ensures ▹ c.emit_sign-c.ensures ▹ c.text_if.ensures) (level-is _ _ _ _ _ (level_of c.args.l) (c.has-space.ensures ∙ sets_space_pointer c.args.call) c.is_spaced.ensures)
