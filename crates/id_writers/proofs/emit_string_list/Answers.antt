-- The entries that are written with those that follow are all of them.
use Rattle.std.proofs.Common.{rules, arith, refl}
use Rattle.context.proofs.Opening.{wrote-first}
use Rattle.emit.proofs.Laws.{rest_all, rest-next, rest-none, rest-idle}
use Rattle.id_writers.proofs.emit_string_list.Goals as goal

pub loop-i-init : goal.loop-i-init
loop-i-init c = (omega arith, refl, search rules, rest_all)

pub returns-then-is_idle : goal.returns-then-is_idle
returns-then-is_idle c = rest-idle c.loop-i.invariant.3 (cc)

pub loop-i-preserved : goal.loop-i-preserved
loop-i-preserved c = (omega arith, cc, cc, rest-next c.loop-i.invariant.3 (omega arith) c.entry_at.ensures c.text_if-c.ensures (wrote-first c.emit_type_index-q.ensures c.loop-i.invariant.2))

pub returns : goal.returns
returns c = rest-none c.loop-i.invariant.3 (omega arith)
