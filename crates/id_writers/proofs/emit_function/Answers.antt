-- Each case of the function's type is one of the rule's.
use Rattle.std.proofs.Common.{rules, sym, ◌∙◌}
use Rattle.pen.proofs.Laws.{◌▸◌, wrote_by, wrote-step}
use Rattle.context.proofs.Opening.{plain, writes-by}
use Rattle.id_writers.proofs.Laws.{function-zero, function-entry, function-body, first-stopped, first-open, first-bad, function-method, function-procedure, function-other}
use Rattle.id_writers.proofs.emit_function.Goals as goal

pub returns-then-index-eq0 : goal.returns-then-index-eq0
returns-then-index-eq0 c = wrote_by (wrote-step ▸ c.emit_name_str.ensures) (function-zero _ _ _ _ _ c.if-index-eq0.true)

pub returns-then-is_idle : goal.returns-then-is_idle
returns-then-is_idle c = first-stopped _ _ _ _ _ _ (function-entry _ _ _ _ _ c.if-index-eq0.false) (function-body _ _ _ _ _ c.if-index-eq0.false) _ c.open_index-q.ensures (search rules) (sym c.is_idle.ensures ∙ c.if-is_idle.true)

pub returns-in-Ok-MemberFunction : goal.returns-in-Ok-MemberFunction
returns-in-Ok-MemberFunction c = first-open _ _ _ _ _ _ (function-entry _ _ _ _ _ c.if-index-eq0.false) (function-body _ _ _ _ _ c.if-index-eq0.false) _ c.open_index-q.ensures (search rules) (sym c.is_idle.ensures ∙ c.if-is_idle.false) c.type_at.ensures c.in-Ok-MemberFunction.is (writes-by c.emit_method.ensures (function-method _ _ _ _ _ _ _ c.in-Ok-MemberFunction.field-0-is))

pub returns-in-Ok-Procedure : goal.returns-in-Ok-Procedure
returns-in-Ok-Procedure c = first-open _ _ _ _ _ _ (function-entry _ _ _ _ _ c.if-index-eq0.false) (function-body _ _ _ _ _ c.if-index-eq0.false) _ c.open_index-q.ensures (search rules) (sym c.is_idle.ensures ∙ c.if-is_idle.false) c.type_at.ensures c.in-Ok-Procedure.is (writes-by c.emit_procedure.ensures (function-procedure _ _ _ _ _ _ _ c.in-Ok-Procedure.field-0-is))

pub returns-in-Ok : goal.returns-in-Ok
returns-in-Ok c = first-open _ _ _ _ _ _ (function-entry _ _ _ _ _ c.if-index-eq0.false) (function-body _ _ _ _ _ c.if-index-eq0.false) _ c.open_index-q.ensures (search rules) (sym c.is_idle.ensures ∙ c.if-is_idle.false) c.type_at.ensures c.in-Ok.is (writes-by (plain c.text.ensures) (function-other _ _ _ _ _ _ (search rules)))

pub returns-in-Err : goal.returns-in-Err
returns-in-Err c = first-bad _ _ _ _ _ _ (function-entry _ _ _ _ _ c.if-index-eq0.false) (function-body _ _ _ _ _ c.if-index-eq0.false) _ c.open_index-q.ensures (search rules) (sym c.is_idle.ensures ∙ c.if-is_idle.false) c.type_at.ensures c.in-Err.is c.unread.ensures
