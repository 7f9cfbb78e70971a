-- The text for an anonymous namespace, or the string.
use Rattle.pen.proofs.Laws.{wrote_by}
use Rattle.leaf_writers.proofs.AnonymousLaws.{string-anonymous, string-itself}
use Rattle.leaf_writers.proofs.strings.emit_string.Goals as goal

pub returns-then-is_anonymous_namespace : goal.returns-then-is_anonymous_namespace
returns-then-is_anonymous_namespace c = wrote_by c.text.ensures (string-anonymous _ _ c.is_anonymous_namespace.ensures c.if-is_anonymous_namespace.true)

pub returns : goal.returns
returns c = wrote_by c.emit_shown.ensures (string-itself _ _ c.is_anonymous_namespace.ensures c.if-is_anonymous_namespace.false)
