-- The texts one after another, by whether the primitive is pointed to.
use mathlib.Core.Path.{◌∙◌}
use Rattle.pen.proofs.Laws.{◌▹◌, wrote_by}
use Rattle.context.proofs.Laws.{sets_space_pointer}
use Rattle.leaf_writers.proofs.SignsLaws.{primitive-itself, primitive-pointed}
use Rattle.leaf_writers.proofs.named.emit_primitive.Goals as goal

pub returns-then-indirection-eq0 : goal.returns-then-indirection-eq0
returns-then-indirection-eq0 c = wrote_by (c.text_if-q.ensures ▹ c.emit_kind.ensures) (primitive-itself _ _ _ _ c.if-indirection-eq0.true)

pub returns : goal.returns
returns c = wrote_by (c.emit_kind-k.ensures ▹ c.text_if-r.ensures ▹ c.text_if-t.ensures ▹ c.text.ensures) (primitive-pointed _ _ _ _ _ (c.has-space.ensures ∙ sets_space_pointer c.args.call) c.if-indirection-eq0.false)
