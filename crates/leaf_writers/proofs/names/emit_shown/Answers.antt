-- A run that ends the name, a part behind a run, and the end.
use Rattle.std.proofs.Common.{rules}
use mathlib.Core.Path.{refl}
use native.Mathlib.Omega.{arith}
use Rattle.utf8.proofs.Laws.{run-stops, run-part, run-within}
use Rattle.pen.proofs.Laws.{run-say}
use Rattle.leaf_writers.proofs.NamesLaws.{part-behind, run-last, run-next, run-over}
use Rattle.leaf_writers.proofs.names.emit_shown.Goals as goal

pub slice_bounds-text-end : goal.slice_bounds-text-end
slice_bounds-text-end c = run-within c.args.name.now c.loop-at.at _ c.run_end-end.ensures c.loop-at.invariant.0

pub returns-then-end-len : goal.returns-then-end-len
returns-then-end-len c = record { is = rw run-say (run-last _ c.args.name.now _ _ c.loop-at.at _ c.loop-at.invariant.1 c.run_end-end.ensures c.text-q.ensures c.if-end-len.true) }

pub part_at-requires : goal.part_at-requires
part_at-requires c = omega (arith, run-within c.args.name.now c.loop-at.at _ c.run_end-end.ensures c.loop-at.invariant.0, c.if-end-len.false)

pub returns-in_default : goal.returns-in_default
returns-in_default c =
    let k = run-stops c.args.name.now c.loop-at.at _ c.run_end-end.ensures (omega (arith, run-within c.args.name.now c.loop-at.at _ c.run_end-end.ensures c.loop-at.invariant.0, c.if-end-len.false)) in
    cc

pub overflow_add-at : goal.overflow_add-at
overflow_add-at c = omega (arith, c.well_formed, part-behind c.args.name.now c.loop-at.at _ c.in-Err.len c.run_end-end.ensures c.loop-at.invariant.0 c.if-end-len.false (run-part c.args.name.now c.loop-at.at _ c.run_end-end.ensures _ (omega (arith, run-within c.args.name.now c.loop-at.at _ c.run_end-end.ensures c.loop-at.invariant.0, c.if-end-len.false)) c.in-Err.ensures))

pub loop-at-smaller : goal.loop-at-smaller
loop-at-smaller c = omega (arith, c.run_end-end.ensures, part-behind c.args.name.now c.loop-at.at _ c.in-Err.len c.run_end-end.ensures c.loop-at.invariant.0 c.if-end-len.false (run-part c.args.name.now c.loop-at.at _ c.run_end-end.ensures _ (omega (arith, run-within c.args.name.now c.loop-at.at _ c.run_end-end.ensures c.loop-at.invariant.0, c.if-end-len.false)) c.in-Err.ensures))

pub loop-at-preserved : goal.loop-at-preserved
loop-at-preserved c = (omega (arith, part-behind c.args.name.now c.loop-at.at _ c.in-Err.len c.run_end-end.ensures c.loop-at.invariant.0 c.if-end-len.false (run-part c.args.name.now c.loop-at.at _ c.run_end-end.ensures _ (omega (arith, run-within c.args.name.now c.loop-at.at _ c.run_end-end.ensures c.loop-at.invariant.0, c.if-end-len.false)) c.in-Err.ensures)), run-next _ c.args.name.now _ _ c.loop-at.at _ c.loop-at.invariant.1 c.run_end-end.ensures c.text-q.ensures _ c.in-Err.len c.if-end-len.false c.loop-at.invariant.0 (run-part c.args.name.now c.loop-at.at _ c.run_end-end.ensures _ (omega (arith, run-within c.args.name.now c.loop-at.at _ c.run_end-end.ensures c.loop-at.invariant.0, c.if-end-len.false)) c.in-Err.ensures) c.text-q-in-loop-at.ensures)

pub returns : goal.returns
returns c = record { is = rw run-say (run-over _ c.args.name.now _ c.loop-at.at c.loop-at.invariant.1 c.loop-at-test.false) }
