-- The measures of the writers: how many may still be opened, then the writer's place among those that call at the same count.
use Rattle.std.proofs.Common.{◌≡◌, ◌+◌, ◌-◌, ◌*◌, ◌≤◌, length, drop}
use Rattle.pen.specs.Page.{page}
use Rattle.rules.specs.Types.{comma}
use Rattle.rules.specs.Places.{lent_in}
use Rattle.context.specs.Context.{settings_of}
use Rattle.queries.specs.Arrays.{arrayed}
use Rattle.emit.proofs.Laws.{Rest}
use Rattle.emit.proofs.+type_writers.Given as goal

abbrev pub decreases-args : goal.decreases-args
decreases-args l = l.left * 64 + 3

abbrev pub decreases-base : goal.decreases-base
decreases-base l = l.left * 64 + (12 + 10 * arrayed l.t)

abbrev pub decreases-emit_arg_list : goal.decreases-emit_arg_list
decreases-emit_arg_list l = l.left * 64 + 2

abbrev pub decreases-emit_array : goal.decreases-emit_array
decreases-emit_array l = l.left * 64 + 15

abbrev pub decreases-emit_member_ptr : goal.decreases-emit_member_ptr
decreases-emit_member_ptr l = l.left * 64 + 5

abbrev pub decreases-emit_method_args : goal.decreases-emit_method_args
decreases-emit_method_args l = l.left * 64 + 1

abbrev pub decreases-emit_modifier : goal.decreases-emit_modifier
decreases-emit_modifier l = l.left * 64 + 1

abbrev pub decreases-emit_other_ptr : goal.decreases-emit_other_ptr
decreases-emit_other_ptr l = l.left * 64 + 30

abbrev pub decreases-emit_proc_ptr : goal.decreases-emit_proc_ptr
decreases-emit_proc_ptr l = l.left * 64 + 5

abbrev pub decreases-emit_ptr : goal.decreases-emit_ptr
decreases-emit_ptr l = l.left * 64 + 1

abbrev pub decreases-emit_ptr_helper : goal.decreases-emit_ptr_helper
decreases-emit_ptr_helper l = l.left * 64 + 31

abbrev pub decreases-emit_return_type : goal.decreases-emit_return_type
decreases-emit_return_type l = l.left * 64 + 2

abbrev pub decreases-emit_type : goal.decreases-emit_type
decreases-emit_type l = l.left * 64 + (11 + 10 * arrayed l.t)

abbrev pub decreases-emit_type_index : goal.decreases-emit_type_index
decreases-emit_type_index l = l.left * 64 + 1

abbrev pub decreases-emit_type_inner : goal.decreases-emit_type_inner
decreases-emit_type_inner l = l.left * 64 + (10 + 10 * arrayed l.t)

abbrev pub invariant-emit_arg_list-loop-i : goal.invariant-emit_arg_list-loop-i
invariant-emit_arg_list-loop-i l = (l.i ≤ l.e.count) × (length l.out ≡ length l.initial.out) × (length l.seen ≡ 96) × (drop l.left l.seen ≡ drop l.left l.initial.seen) × Rest l.lent.types.now (lent_in l.lent) l.call (drop l.left l.initial.seen) l.lent.types.now (comma (settings_of l.call)) l.e l.led l.between l.i (page l.out l.q) (page l.initial.out l.initial.q)
