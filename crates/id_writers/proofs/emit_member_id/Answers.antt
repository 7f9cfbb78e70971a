-- The function type is opened in a list of its own, then read.
use Rattle.std.proofs.Common.{rules, sym, ◌∙◌}
use Rattle.context.proofs.Opening.{plain, writes-by}
use Rattle.id_writers.proofs.Laws.{member-entry, member-body, first-stopped, first-open, first-bad, member-wrong, member_right, name-shown}
use Rattle.id_writers.proofs.emit_member_id.Goals as goal

pub returns-then-is_idle : goal.returns-then-is_idle
returns-then-is_idle c = first-stopped _ _ _ _ _ _ (member-entry _ _ _ _ _ _) (member-body _ _ _ _ _ _) _ c.open_index-q.ensures (search rules) (sym c.is_idle.ensures ∙ c.if-is_idle.true)

pub returns-in-Ok : goal.returns-in-Ok
returns-in-Ok c = first-open _ _ _ _ _ _ (member-entry _ _ _ _ _ _) (member-body _ _ _ _ _ _) _ c.open_index-q.ensures (search rules) (sym c.is_idle.ensures ∙ c.if-is_idle.false) c.type_at.ensures c.in-Ok.is (writes-by (plain c.refuse.ensures) (member-wrong _ _ _ _ _ _ _ _ (search rules)))

pub returns-in-Ok-MemberFunction : goal.returns-in-Ok-MemberFunction
returns-in-Ok-MemberFunction c = first-open _ _ _ _ _ _ (member-entry _ _ _ _ _ _) (member-body _ _ _ _ _ _) _ c.open_index-q.ensures (search rules) (sym c.is_idle.ensures ∙ c.if-is_idle.false) c.type_at.ensures c.in-Ok-MemberFunction.is (writes-by c.emit_member.ensures (member_right _ _ _ _ _ _ _ _ _ _ c.in-Ok-MemberFunction.field-0-is (name-shown _ _ _ c.name_of-name.ensures)))

pub returns-in-Err : goal.returns-in-Err
returns-in-Err c = first-bad _ _ _ _ _ _ (member-entry _ _ _ _ _ _) (member-body _ _ _ _ _ _) _ c.open_index-q.ensures (search rules) (sym c.is_idle.ensures ∙ c.if-is_idle.false) c.type_at.ensures c.in-Err.is c.unread.ensures
