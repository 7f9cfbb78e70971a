-- What each writer owes at its calls and returns, below the measure t.
use Rattle.std.proofs.Common.{rules, ◌∙◌, sym, refl, arith}
use Rattle.emit.specs.Walking.{method_of}
use Rattle.context.proofs.Opening.{plain, ◌▸▸◌, writes-by, unlent, writes-marking, wrote_at, writes-ending}
use Rattle.context.proofs.Laws.{sets_no_arguments}
use Rattle.emit.proofs.Laws.{room_below, arrayed_low, this-given, this-extra, this-bad, proc-ptr-is, result-none, result-some, text-by, inner-primitive, inner-modifier, inner-pointer, inner-procedure, inner-method, inner-list, inner-array, inner-named, helper-method, helper-procedure, helper-other, rest-next, rest-none, rest-idle, writes_later, array-base, array_long, array-unsized, array-bad, member-ptr-is, args-hidden, args-stopped, args-open, args-bad, list-wrong, list_right, modified-stopped, modified-open, modified-bad, modified-pointer, modified-primitive, modified-plain, other-ptr-is, aimed-stopped, aimed-open, aimed-bad, aimed-pointer, aimed-modifier, aimed-twice, aimed-plain, text-is, self-stopped, self-open, self-bad}
use Rattle.pen.proofs.Laws.{wrote-idle, wrote-same, wrote-step}
use Rattle.emit.proofs.+type_writers.Goals as goal
use Rattle.emit.proofs.+type_writers.Goals.{emit_ptr-in_default-via-in-Modifier+else-not-modified, emit_ptr-in_default-via-in_default}

pub args-returns-after-closes : goal.args-returns-after-closes
args-returns-after-closes t c = writes-by (plain c.text-a.ensures ▸▸ c.emit_arg_list-b.ensures ▸▸ plain c.text-c.ensures ▸▸ plain c.text_if.ensures) (this-given _ _ _ _ (method_of c.args.m) c.args.closes _ c.check_ptr_class.ensures c.in-Ok-Some.constant (search (c.in-Ok-Some.is, rules)) (grind arith))

pub args-returns-in-Err : goal.args-returns-in-Err
args-returns-in-Err t c = writes-by (plain c.unread.ensures) (this-bad _ _ _ _ (method_of c.args.m) c.args.closes _ c.check_ptr_class.ensures c.in-Err.is)

pub args-returns-in-Ok-None : goal.args-returns-in-Ok-None
args-returns-in-Ok-None t c = writes-by (plain c.text-a-in-Ok-None.ensures ▸▸ c.emit_type_index-b.ensures ▸▸ c.emit_arg_list-c.ensures ▸▸ plain c.text.ensures) (this-extra _ _ _ _ (method_of c.args.m) c.args.closes _ c.check_ptr_class.ensures (search (c.in-Ok-None.is, rules)))

pub base-returns-in-Modifier : goal.base-returns-in-Modifier
base-returns-in-Modifier t c = writes-by (writes-marking (sym c.is_idle.ensures ∙ c.if-is_idle.false) c.emit_modifier-q.ensures c.mark_missing-in-Modifier.ensures) (text-by _ _ _ _ _ (inner-modifier _ _ _ _ c.in-Modifier.is))

pub base-returns-in-Pointer : goal.base-returns-in-Pointer
base-returns-in-Pointer t c = writes-by (writes-marking (sym c.is_idle.ensures ∙ c.if-is_idle.false) c.emit_ptr-q.ensures c.mark_missing.ensures) (text-by _ _ _ _ _ (inner-pointer _ _ _ _ c.in-Pointer.is c.new.ensures.levels c.aim-first.ensures.1))

pub base-returns-then-is_idle : goal.base-returns-then-is_idle
base-returns-then-is_idle t c = unlent (wrote-idle (cc))

pub emit_arg_list-loop-i-preserved : goal.emit_arg_list-loop-i-preserved
emit_arg_list-loop-i-preserved t c = (omega arith, cc, cc, c.emit_type_index-q.ensures.kept ∙ c.loop-i.invariant.3, rest-next c.loop-i.invariant.4 (omega arith) c.entry_at.ensures c.emit_comma-c.ensures (wrote_at c.emit_type_index-q.ensures c.loop-i.invariant.3))

pub emit_arg_list-returns : goal.emit_arg_list-returns
emit_arg_list-returns t c = record { wrote = rest-none c.loop-i.invariant.4 (omega arith); kept = c.loop-i.invariant.3 }

pub emit_arg_list-returns-then-is_idle : goal.emit_arg_list-returns-then-is_idle
emit_arg_list-returns-then-is_idle t c = record { wrote = rest-idle c.loop-i.invariant.4 (cc); kept = c.loop-i.invariant.3 }

pub emit_array-returns : goal.emit_array-returns
emit_array-returns t c = writes-by (writes_later c.get_array_info-info.ensures.taken (writes_later c.get_type_size.ensures.taken (c.base-q.ensures ▸▸ plain c.emit_brackets.ensures))) (array-base _ _ _ _ c.get_array_info-info.ensures c.in-Ok.is c.get_type_size.ensures c.in-Ok-get_type_size.is)

pub emit_array-returns-in-Err : goal.emit_array-returns-in-Err
emit_array-returns-in-Err t c = writes-by (writes_later c.get_array_info-info.ensures.taken (writes_later c.get_type_size.ensures.taken (plain c.too_long-in-Err.ensures))) (array-unsized _ _ _ _ c.get_array_info-info.ensures c.in-Ok.is c.get_type_size.ensures c.in-Err.is)

pub emit_array-returns-in-Err-Refused : goal.emit_array-returns-in-Err-Refused
emit_array-returns-in-Err-Refused t c = writes-by (writes_later c.get_array_info-info.ensures.taken (plain c.unread.ensures)) (array-bad _ _ _ _ c.get_array_info-info.ensures _ (search (c.in-Err-Refused.is, rules)))

pub emit_array-returns-in-Err-TooLong : goal.emit_array-returns-in-Err-TooLong
emit_array-returns-in-Err-TooLong t c = writes-by (writes_later c.get_array_info-info.ensures.taken (plain c.too_long.ensures)) (array_long _ _ _ _ c.get_array_info-info.ensures _ (search (c.in-Err-TooLong.is, rules)))

pub emit_member_ptr-returns : goal.emit_member_ptr-returns
emit_member_ptr-returns t c = writes-by (c.emit_return_type-a.ensures ▸▸ plain c.text-b.ensures ▸▸ c.emit_type_index-c.ensures ▸▸ plain c.emit_attributes-d.ensures ▸▸ plain c.text-e.ensures ▸▸ c.emit_method_args.ensures) (member-ptr-is _ _ _ _ (method_of c.args.m))

pub emit_method_args-args-requires : goal.emit_method_args-args-requires
emit_method_args-args-requires t c = grind (arith, room_below c.open_index-q.ensures c.told-seen)

pub emit_method_args-overflow_sub-left : goal.emit_method_args-overflow_sub-left
emit_method_args-overflow_sub-left t c = grind (arith, room_below c.open_index-q.ensures c.told-seen)

pub emit_method_args-returns-in-Err : goal.emit_method_args-returns-in-Err
emit_method_args-returns-in-Err t c = args-bad _ _ _ _ _ (method_of c.args.m) c.args.closes (c.has.ensures ∙ sets_no_arguments _) c.if-has.false _ c.open_index-q.ensures c.told-seen c.requires (sym c.is_idle.ensures ∙ c.if-is_idle.false) c.type_at.ensures c.in-Err.is c.unread.ensures

pub emit_method_args-returns-in-Ok : goal.emit_method_args-returns-in-Ok
emit_method_args-returns-in-Ok t c = args-open _ _ _ _ _ (method_of c.args.m) c.args.closes (c.has.ensures ∙ sets_no_arguments _) c.if-has.false _ c.open_index-q.ensures c.told-seen c.requires (sym c.is_idle.ensures ∙ c.if-is_idle.false) c.type_at.ensures c.in-Ok.is (writes-by (plain c.refuse.ensures) (list-wrong _ _ _ _ (method_of c.args.m) c.args.closes _ (search rules)))

pub emit_method_args-returns-in-Ok-ArgumentList : goal.emit_method_args-returns-in-Ok-ArgumentList
emit_method_args-returns-in-Ok-ArgumentList t c = args-open _ _ _ _ _ (method_of c.args.m) c.args.closes (c.has.ensures ∙ sets_no_arguments _) c.if-has.false _ c.open_index-q.ensures c.told-seen c.requires (sym c.is_idle.ensures ∙ c.if-is_idle.false) c.type_at.ensures c.in-Ok-ArgumentList.is (writes-by c.args-in-Ok-ArgumentList.ensures (list_right _ _ _ _ (method_of c.args.m) c.args.closes c.in-Ok-ArgumentList.field-0-is))

pub emit_method_args-returns-then-has : goal.emit_method_args-returns-then-has
emit_method_args-returns-then-has t c = unlent (wrote-same (args-hidden _ _ _ _ _ _ (c.has.ensures ∙ sets_no_arguments _) c.if-has.true))

pub emit_method_args-returns-then-is_idle : goal.emit_method_args-returns-then-is_idle
emit_method_args-returns-then-is_idle t c = args-stopped _ _ _ _ _ (method_of c.args.m) c.args.closes (c.has.ensures ∙ sets_no_arguments _) c.if-has.false _ c.open_index-q.ensures c.told-seen c.requires (sym c.is_idle.ensures ∙ c.if-is_idle.true)

pub emit_modifier-base-requires : goal.emit_modifier-base-requires
emit_modifier-base-requires t c = grind (arith, arrayed_low, room_below c.open_index-q.ensures c.told-seen)

pub emit_modifier-emit_ptr-requires : goal.emit_modifier-emit_ptr-requires
emit_modifier-emit_ptr-requires t c = grind (arith, room_below c.open_index-q.ensures c.told-seen)

pub emit_modifier-overflow_sub-n : goal.emit_modifier-overflow_sub-n
emit_modifier-overflow_sub-n t c = grind (arith, room_below c.open_index-q.ensures c.told-seen)

pub emit_modifier-returns-after-x : goal.emit_modifier-returns-after-x
emit_modifier-returns-after-x t c = modified-open _ _ _ _ _ _ c.args.constant _ c.open_index-q.ensures c.told-seen c.requires (sym c.is_idle.ensures ∙ c.if-is_idle.false) c.type_at.ensures c.in-Ok-Pointer.is (writes-by c.emit_ptr.ensures (modified-pointer _ _ _ _ c.args.constant _ c.in-Ok-Pointer.field-0-is (grind arith) c.new.ensures.levels c.aim-first.ensures.1))

pub emit_modifier-returns-in-Err : goal.emit_modifier-returns-in-Err
emit_modifier-returns-in-Err t c = modified-bad _ _ _ _ _ _ c.args.constant _ c.open_index-q.ensures c.told-seen c.requires (sym c.is_idle.ensures ∙ c.if-is_idle.false) c.type_at.ensures c.in-Err.is c.unread.ensures

pub emit_modifier-returns-in-Ok : goal.emit_modifier-returns-in-Ok
emit_modifier-returns-in-Ok t c = modified-open _ _ _ _ _ _ c.args.constant _ c.open_index-q.ensures c.told-seen c.requires (sym c.is_idle.ensures ∙ c.if-is_idle.false) c.type_at.ensures c.in-Ok.is (writes-by (plain c.text_if-a.ensures ▸▸ c.base.ensures) (modified-plain _ _ _ _ c.args.constant _ (search rules)))

pub emit_modifier-returns-in-Ok-Primitive : goal.emit_modifier-returns-in-Ok-Primitive
emit_modifier-returns-in-Ok-Primitive t c = modified-open _ _ _ _ _ _ c.args.constant _ c.open_index-q.ensures c.told-seen c.requires (sym c.is_idle.ensures ∙ c.if-is_idle.false) c.type_at.ensures c.in-Ok-Primitive.is (writes-by (plain c.emit_primitive.ensures) (modified-primitive _ _ _ _ c.args.constant _ c.in-Ok-Primitive.field-0-is))

pub emit_modifier-returns-then-is_idle : goal.emit_modifier-returns-then-is_idle
emit_modifier-returns-then-is_idle t c = modified-stopped _ _ _ _ _ _ c.args.constant _ c.open_index-q.ensures c.told-seen c.requires (sym c.is_idle.ensures ∙ c.if-is_idle.true)

pub emit_other_ptr-returns : goal.emit_other_ptr-returns
emit_other_ptr-returns t c = writes-by (writes-ending _ _ refl c.emit_type-q.ensures c.emit_attributes_since.ensures) (other-ptr-is _ _ _ _ _)

pub emit_proc_ptr-returns : goal.emit_proc_ptr-returns
emit_proc_ptr-returns t c = writes-by (c.emit_return_type-a.ensures ▸▸ plain c.text-b.ensures ▸▸ plain c.emit_attributes-c.ensures ▸▸ plain c.text-d.ensures ▸▸ plain c.text-e.ensures ▸▸ c.emit_type_index-f.ensures ▸▸ plain c.text.ensures) (proc-ptr-is _ _ _ _ c.args.x.result.0 c.args.x.arguments.0 c.args.x.constructor _ c.is_void-none.ensures)

pub emit_ptr-aim-further-requires : goal.emit_ptr-aim-further-requires
emit_ptr-aim-further-requires t c = grind (arith, room_below c.open_index-q.ensures c.told-seen)

pub emit_ptr-emit_ptr-requires : goal.emit_ptr-emit_ptr-requires
emit_ptr-emit_ptr-requires t c = grind (arith, room_below c.open_index-q.ensures c.told-seen)

pub emit_ptr-emit_ptr-requires-in-Modifier : goal.emit_ptr-emit_ptr-requires-in-Modifier
emit_ptr-emit_ptr-requires-in-Modifier t c = grind (arith, room_below c.open_index-q.ensures c.told-seen)

pub emit_ptr-emit_ptr_helper-requires : goal.emit_ptr-emit_ptr_helper-requires
emit_ptr-emit_ptr_helper-requires t c = grind (arith, room_below c.open_index-q.ensures c.told-seen)

pub emit_ptr-overflow_sub-n : goal.emit_ptr-overflow_sub-n
emit_ptr-overflow_sub-n t c = grind (arith, room_below c.open_index-q.ensures c.told-seen)

pub emit_ptr-returns-in-Err : goal.emit_ptr-returns-in-Err
emit_ptr-returns-in-Err t c = aimed-bad _ _ _ _ _ c.args.modified _ _ _ c.way_to.ensures c.open_index-q.ensures c.told-seen (omega arith) (sym c.is_idle.ensures ∙ c.if-is_idle.false) c.type_at.ensures c.in-Err.is c.unread.ensures

pub emit_ptr-returns-in-Modifier : goal.emit_ptr-returns-in-Modifier
emit_ptr-returns-in-Modifier t c = aimed-open _ _ _ _ _ c.args.modified _ _ _ c.way_to.ensures c.open_index-q.ensures c.told-seen (omega arith) (sym c.is_idle.ensures ∙ c.if-is_idle.false) c.type_at.ensures c.in-Ok.is (writes-by c.emit_ptr-in-Modifier.ensures (aimed-modifier _ _ _ _ _ c.if-not-modified.true c.in-Modifier.is c.over_pointee-over.ensures.levels))

pub emit_ptr-returns-in-Pointer : goal.emit_ptr-returns-in-Pointer
emit_ptr-returns-in-Pointer t c = aimed-open _ _ _ _ _ c.args.modified _ _ _ c.way_to.ensures c.open_index-q.ensures c.told-seen (omega arith) (sym c.is_idle.ensures ∙ c.if-is_idle.false) c.type_at.ensures c.in-Ok.is (writes-by c.emit_ptr.ensures (aimed-pointer _ _ _ _ _ c.args.modified c.in-Pointer.is c.aim-further.ensures.1))

pub emit_ptr-returns-in_default : goal.emit_ptr-returns-in_default
emit_ptr-returns-in_default t c = aimed-open _ _ _ _ _ c.args.modified _ _ _ c.way_to.ensures c.open_index-q.ensures c.told-seen (omega arith) (sym c.is_idle.ensures ∙ c.if-is_idle.false) c.type_at.ensures c.in-Ok.is (writes-by c.emit_ptr_helper.ensures (elim c.in_default.branch [ emit_ptr-in_default-via-in-Modifier+else-not-modified w ↦ aimed-twice _ _ _ _ _ w.t-is w.if-not-modified.false w.in-Modifier.is | emit_ptr-in_default-via-in_default w ↦ aimed-plain _ _ _ _ _ c.args.modified w.t-is (search rules) ]))

pub emit_ptr-returns-then-is_idle : goal.emit_ptr-returns-then-is_idle
emit_ptr-returns-then-is_idle t c = aimed-stopped _ _ _ _ _ c.args.modified _ _ _ c.way_to.ensures c.open_index-q.ensures c.told-seen (omega arith) (sym c.is_idle.ensures ∙ c.if-is_idle.true)

pub emit_ptr_helper-returns-in-MemberFunction : goal.emit_ptr_helper-returns-in-MemberFunction
emit_ptr_helper-returns-in-MemberFunction t c = writes-by c.emit_member_ptr.ensures (helper-method _ _ _ _ _ c.in-MemberFunction.is)

pub emit_ptr_helper-returns-in-Procedure : goal.emit_ptr_helper-returns-in-Procedure
emit_ptr_helper-returns-in-Procedure t c = writes-by c.emit_proc_ptr.ensures (helper-procedure _ _ _ _ _ c.in-Procedure.is)

pub emit_ptr_helper-returns-in_default : goal.emit_ptr_helper-returns-in_default
emit_ptr_helper-returns-in_default t c = writes-by c.emit_other_ptr.ensures (helper-other _ _ _ _ _ _ (search rules))

pub emit_return_type-returns : goal.emit_return_type-returns
emit_return_type-returns t c = writes-by (c.emit_type_index-a.ensures ▸▸ plain c.text.ensures) (result-some _ _ _ _ _ c.if-none.false)

pub emit_return_type-returns-then-none : goal.emit_return_type-returns-then-none
emit_return_type-returns-then-none t c = unlent (wrote-same (result-none _ _ _ _ _ c.if-none.true))

pub emit_type-returns : goal.emit_type-returns
emit_type-returns t c = writes-by (writes-marking (cc) c.emit_type_inner-q.ensures c.mark_missing.ensures) (text-is _ _ _ _)

pub emit_type-returns-then-is_idle : goal.emit_type-returns-then-is_idle
emit_type-returns-then-is_idle t c = unlent (wrote-idle (cc))

pub emit_type_index-emit_type-requires : goal.emit_type_index-emit_type-requires
emit_type_index-emit_type-requires t c = grind (arith, arrayed_low, room_below c.open_index-q.ensures c.told-seen)

pub emit_type_index-overflow_sub-left : goal.emit_type_index-overflow_sub-left
emit_type_index-overflow_sub-left t c = grind (arith, room_below c.open_index-q.ensures c.told-seen)

pub emit_type_index-returns : goal.emit_type_index-returns
emit_type_index-returns t c = self-open _ _ _ _ _ _ c.type_at.ensures c.in-Ok.is c.open_index-q.ensures c.told-seen c.requires (sym c.is_idle-2.ensures ∙ c.if-is_idle-2.false) c.emit_type.ensures

pub emit_type_index-returns-in-Err : goal.emit_type_index-returns-in-Err
emit_type_index-returns-in-Err t c = writes-by (plain wrote-step ▸▸ (plain c.emit_mark.ensures)) (self-bad _ _ _ _ _ c.type_at.ensures c.in-Err.is)

pub emit_type_index-returns-then-is_idle : goal.emit_type_index-returns-then-is_idle
emit_type_index-returns-then-is_idle t c = unlent (wrote-idle (cc))

pub emit_type_index-returns-then-is_idle-2 : goal.emit_type_index-returns-then-is_idle-2
emit_type_index-returns-then-is_idle-2 t c = self-stopped _ _ _ _ _ _ c.type_at.ensures c.in-Ok.is c.open_index-q.ensures c.told-seen c.requires (sym c.is_idle-2.ensures ∙ c.if-is_idle-2.true)

pub emit_type_inner-returns-in-ArgumentList : goal.emit_type_inner-returns-in-ArgumentList
emit_type_inner-returns-in-ArgumentList t c = writes-by c.emit_arg_list.ensures (inner-list _ _ _ _ c.in-ArgumentList.is)

pub emit_type_inner-returns-in-Array : goal.emit_type_inner-returns-in-Array
emit_type_inner-returns-in-Array t c = writes-by c.emit_array.ensures (inner-array _ _ _ _ c.in-Array.is)

pub emit_type_inner-returns-in-MemberFunction : goal.emit_type_inner-returns-in-MemberFunction
emit_type_inner-returns-in-MemberFunction t c = writes-by (c.emit_return_type-a-in-MemberFunction.ensures ▸▸ plain c.text-b-in-MemberFunction.ensures ▸▸ c.emit_method_args.ensures) (inner-method _ _ _ _ c.in-MemberFunction.is c.hides_return-none-in-MemberFunction.ensures)

pub emit_type_inner-returns-in-Modifier : goal.emit_type_inner-returns-in-Modifier
emit_type_inner-returns-in-Modifier t c = writes-by c.emit_modifier.ensures (inner-modifier _ _ _ _ c.in-Modifier.is)

pub emit_type_inner-returns-in-Pointer : goal.emit_type_inner-returns-in-Pointer
emit_type_inner-returns-in-Pointer t c = writes-by c.emit_ptr.ensures (inner-pointer _ _ _ _ c.in-Pointer.is c.new.ensures.levels c.aim-first.ensures.1)

pub emit_type_inner-returns-in-Primitive : goal.emit_type_inner-returns-in-Primitive
emit_type_inner-returns-in-Primitive t c = writes-by (plain c.emit_primitive.ensures) (inner-primitive _ _ _ _ c.in-Primitive.is)

pub emit_type_inner-returns-in-Procedure : goal.emit_type_inner-returns-in-Procedure
emit_type_inner-returns-in-Procedure t c = writes-by (c.emit_return_type-a.ensures ▸▸ plain c.text-b.ensures ▸▸ c.emit_type_index.ensures) (inner-procedure _ _ _ _ c.in-Procedure.is c.is_void.ensures c.hides_return-none.ensures)

pub emit_type_inner-returns-in_default : goal.emit_type_inner-returns-in_default
emit_type_inner-returns-in_default t c = writes-by (plain c.emit_record.ensures) (inner-named _ _ _ _ _ (search rules))
