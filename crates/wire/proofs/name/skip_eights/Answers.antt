use Rattle.std.proofs.Common.{sym, ap, ◌∙◌, arith}
use Rattle.wire.specs.Name.{name_end}
use Rattle.wire.proofs.Laws.{zero_behind}
use Rattle.wire.proofs.name.skip_eights.Goals as goal

pub loop-i-preserved : goal.loop-i-preserved
loop-i-preserved c = c.loop-i.invariant ∙ zero_behind 8 _ _ (omega arith) (sym c.zero_in_eight.ensures ∙ c.if-zero_in_eight.false) ∙ ap (name_end c.args.s.now) (omega arith)
