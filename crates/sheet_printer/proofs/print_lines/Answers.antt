-- Each turn goes on with the invariant, ends the run, or could not be printed.
use native.Mathlib.Omega.{arith}
use Rattle.std.proofs.Common.{rules}
use Rattle.sheet_printer.proofs.Laws.{turning-first, turning-next, turn_inside, turn-less, told-all, finished-all, told-stuck, finished-stuck, sheet-most, made-first, made-next, stopped, said}
use Rattle.sheet_printer.proofs.print_lines.Goals as goal

pub loop-p-init : goal.loop-p-init
loop-p-init g c = (turning-first _ _, made-first _ _)

pub returns-in_err-p-clause-some_turns : goal.returns-in_err-p-clause-some_turns
returns-in_err-p-clause-some_turns g c = search (stopped _ c.loop-p.invariant.0 c.loop-p.invariant.1 c.in_err-p.ensures.buffer_after, rules)

pub overflow_add-skip : goal.overflow_add-skip
overflow_add-skip g c = omega (arith, turn_inside _ c.loop-p.invariant.0 c.in_ok-p.ensures.result_after c.print_some.ensures.sheet_continues, sheet-most c.args.types.now c.args.ids.now c.args.sheet.now)

pub returns-then-not-p-clause-result_after : goal.returns-then-not-p-clause-result_after
returns-then-not-p-clause-result_after g c = told-all _ c.loop-p.invariant.0 c.in_ok-p.ensures.result_after c.print_some.ensures.sheet_continues (said _ c.if-not-p.true)

pub returns-then-not-p-clause-all_told : goal.returns-then-not-p-clause-all_told
returns-then-not-p-clause-all_told g c = finished-all _ c.loop-p.invariant.0 c.in_ok-p.ensures.result_after c.print_some.ensures.sheet_continues (said _ c.if-not-p.true)

pub returns-then-p-eq0-clause-result_after : goal.returns-then-p-eq0-clause-result_after
returns-then-p-eq0-clause-result_after g c = told-stuck _ c.loop-p.invariant.0 c.in_ok-p.ensures.result_after c.print_some.ensures.sheet_continues (said _ c.if-not-p.false) c.if-p-eq0.true

pub returns-then-p-eq0-clause-all_told : goal.returns-then-p-eq0-clause-all_told
returns-then-p-eq0-clause-all_told g c = finished-stuck _ c.loop-p.invariant.0 c.in_ok-p.ensures.result_after c.print_some.ensures.sheet_continues (said _ c.if-not-p.false) c.if-p-eq0.true

pub loop-p-smaller : goal.loop-p-smaller
loop-p-smaller g c = turn-less _ c.loop-p.invariant.0 c.in_ok-p.ensures.result_after c.print_some.ensures.sheet_continues (said _ c.if-not-p.false) (omega arith)

pub loop-p-preserved : goal.loop-p-preserved
loop-p-preserved g c = (
  turning-next _ c.loop-p.invariant.0 c.in_ok-p.ensures.result_after c.print_some.ensures.sheet_continues (said _ c.if-not-p.false) (omega arith) (search rules),
  made-next _ c.loop-p.invariant.0 c.in_ok-p.ensures.result_after c.print_some.ensures.sheet_continues (said _ c.if-not-p.false) (omega arith) c.loop-p.invariant.1,
)
