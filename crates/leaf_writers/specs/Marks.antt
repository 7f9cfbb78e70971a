-- What the writers here write, where the rules have no name for it.
use Rattle.std.specs.Prelude.{[], eqb}
use Rattle.wire.specs.Field.{pick}
use Rattle.streams.specs.Refusal.{number_of, detail_of}
use Rattle.streams.specs.declared.refusal.Refusal.{Refusal}
use Rattle.interpreter.specs.Trace.{Trace, tr, refused, count}
use Rattle.rules.specs.Text.{missing_mark, unimplemented_mark}
use Rattle.pen.specs.Page.{writing}

-- What could not be read by itself.
unfoldable pub mark_trace : Refusal → Trace Refusal
mark_trace f =
    pick (eqb (number_of f) 8) (writing (missing_mark (detail_of f)))
    (pick (eqb (number_of f) 7) (writing (unimplemented_mark (detail_of f)))
    (tr [] (refused f) [] (count 0 0)))
