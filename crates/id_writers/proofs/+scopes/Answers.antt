-- Each case of the id is one of the rule's.
use Rattle.std.proofs.Common.{rules, arith, sym, ◌∙◌}
use Rattle.pen.proofs.Laws.{◌▸◌, wrote_by, wrote-step, wrote-same, wrote-idle}
use Rattle.context.proofs.Opening.{plain, ◌▸▸◌, writes-by}
use Rattle.emit.proofs.Laws.{wrote-later}
use Rattle.id_writers.proofs.Laws.{id-bad, id-long, id-by, id-function, id-member, id-list, id-string, id-unhandled, function-id-entry, function-id-body, first-stopped, first-open, first-bad, function-id-wrong, function-id-right, name-shown, scope-none, scope-some}
use Rattle.id_writers.proofs.+scopes.Goals as goal

pub emit_function_id-returns : goal.emit_function_id-returns
emit_function_id-returns t c = first-open _ _ _ _ _ _ (function-id-entry _ _ _ _ _ _) (function-id-body _ _ _ _ _ _) _ c.open_index-q.ensures (search rules) (sym c.is_idle.ensures ∙ c.if-is_idle.false) c.type_at.ensures c.in-Ok-Procedure.is (writes-by (c.emit_result-a.ensures ▸▸ plain c.emit_scope-b.ensures ▸▸ plain c.emit_shown_str-c.ensures ▸▸ c.emit_arguments.ensures) (function-id-right _ _ _ _ _ _ _ _ _ _ c.in-Ok-Procedure.field-0-is (name-shown _ _ _ c.name_of.ensures)))

pub emit_function_id-returns-in-Err : goal.emit_function_id-returns-in-Err
emit_function_id-returns-in-Err t c = first-bad _ _ _ _ _ _ (function-id-entry _ _ _ _ _ _) (function-id-body _ _ _ _ _ _) _ c.open_index-q.ensures (search rules) (sym c.is_idle.ensures ∙ c.if-is_idle.false) c.type_at.ensures c.in-Err.is c.unread.ensures

pub emit_function_id-returns-in-Ok : goal.emit_function_id-returns-in-Ok
emit_function_id-returns-in-Ok t c = first-open _ _ _ _ _ _ (function-id-entry _ _ _ _ _ _) (function-id-body _ _ _ _ _ _) _ c.open_index-q.ensures (search rules) (sym c.is_idle.ensures ∙ c.if-is_idle.false) c.type_at.ensures c.in-Ok.is (writes-by (plain c.refuse.ensures) (function-id-wrong _ _ _ _ _ _ _ _ (search rules)))

pub emit_function_id-returns-then-is_idle : goal.emit_function_id-returns-then-is_idle
emit_function_id-returns-then-is_idle t c = first-stopped _ _ _ _ _ _ (function-id-entry _ _ _ _ _ _) (function-id-body _ _ _ _ _ _) _ c.open_index-q.ensures (search rules) (sym c.is_idle.ensures ∙ c.if-is_idle.true)

pub emit_id-returns-in-Err : goal.emit_id-returns-in-Err
emit_id-returns-in-Err t c = wrote_by (wrote-step ▸ c.emit_mark.ensures) (id-bad _ _ _ _ _ _ c.id_at.ensures _ c.in-Err.is)

pub emit_id-returns-in-Function : goal.emit_id-returns-in-Function
emit_id-returns-in-Function t c = wrote_by (wrote-step ▸ c.emit_function_id.ensures) (id-by _ _ _ _ _ _ _ c.id_at.ensures c.in-Ok.is (omega arith) c.deeper-inner.ensures (id-function _ _ _ _ _ c.in-Function.is))

pub emit_id-returns-in-MemberFunction : goal.emit_id-returns-in-MemberFunction
emit_id-returns-in-MemberFunction t c = wrote_by (wrote-step ▸ c.emit_member_id.ensures) (id-by _ _ _ _ _ _ _ c.id_at.ensures c.in-Ok.is (omega arith) c.deeper-inner.ensures (id-member _ _ _ _ _ c.in-MemberFunction.is))

pub emit_id-returns-in-String : goal.emit_id-returns-in-String
emit_id-returns-in-String t c = wrote_by (wrote-step ▸ c.emit_string.ensures) (id-by _ _ _ _ _ _ _ c.id_at.ensures c.in-Ok.is (omega arith) c.deeper-inner.ensures (id-string _ _ _ _ _ _ c.in-String.is c.name_of.ensures))

pub emit_id-returns-in-StringList : goal.emit_id-returns-in-StringList
emit_id-returns-in-StringList t c = wrote_by (wrote-step ▸ c.text-a.ensures ▸ c.emit_string_list-b.ensures ▸ c.text.ensures) (id-by _ _ _ _ _ _ _ c.id_at.ensures c.in-Ok.is (omega arith) c.deeper-inner.ensures (id-list _ _ _ _ _ c.in-StringList.is))

pub emit_id-returns-in-Unhandled : goal.emit_id-returns-in-Unhandled
emit_id-returns-in-Unhandled t c = wrote_by (wrote-step ▸ c.unhandled_scope.ensures) (id-by _ _ _ _ _ _ _ c.id_at.ensures c.in-Ok.is (omega arith) c.deeper-inner.ensures (id-unhandled _ _ _ _ _ c.in-Unhandled.is))

pub emit_id-returns-then-allowance-eq0 : goal.emit_id-returns-then-allowance-eq0
emit_id-returns-then-allowance-eq0 t c = wrote_by (wrote-later 1 c.too_long.ensures) (id-long _ _ _ _ _ _ c.id_at.ensures _ c.in-Ok.is (omega arith))

pub emit_id-returns-then-is_idle : goal.emit_id-returns-then-is_idle
emit_id-returns-then-is_idle t c = wrote-idle (cc)

pub emit_scope-returns : goal.emit_scope-returns
emit_scope-returns t c = wrote_by (c.emit_id-a.ensures ▸ c.text.ensures) (scope-some _ _ _ _ c.if-scope-eq0.false)

pub emit_scope-returns-then-scope-eq0 : goal.emit_scope-returns-then-scope-eq0
emit_scope-returns-then-scope-eq0 t c = wrote-same (scope-none _ _ _ _ c.if-scope-eq0.true)
