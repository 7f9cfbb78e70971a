use Rattle.std.proofs.Common.{◌≤◌, sym, ◌∙◌, arith}
use native.Mathlib.Nat.{mul-le-mul}
use Rattle.streams.proofs.Walk.{behind-within}
use Rattle.streams.proofs.Chained.{linked_next, linked_far, linked_met}
use Rattle.streams.proofs.chains.finish.Goals as goal

pub note-pace-requires : goal.note-pace-requires
note-pace-requires c = let f = linked_far _ _ _ _ _ _ c.loop-at.invariant.0 (omega arith) in omega arith

pub overflow_add-pace : goal.overflow_add-pace
overflow_add-pace c = let f = linked_far _ _ _ _ _ _ (c.note-pace.ensures.linked _ _ c.loop-at.invariant.0) (omega arith) in omega arith

pub overflow_sub-pace : goal.overflow_sub-pace
overflow_sub-pace c = c.note-pace.ensures.waits (omega arith)

pub loop-at-smaller : goal.loop-at-smaller
loop-at-smaller c = omega (arith, behind-within _ _ c.behind_record.ensures _ c.in_ok-at.was)

pub loop-at-preserved : goal.loop-at-preserved
loop-at-preserved c = (
  linked_next _ _ _ _ _ _ (c.note-pace.ensures.linked _ _ c.loop-at.invariant.0) (c.note-pace.ensures.waits (omega arith)) _ (sym c.behind_record.ensures ∙ c.in_ok-at.was),
  c.note-pace.ensures.sized ∙ c.loop-at.invariant.1,
)

pub returns-then-pace-part : goal.returns-then-pace-part
returns-then-pace-part c = rw (← c.if-at-goal.true) (linked_met _ _ _ _ _ _ c.loop-at.invariant.0 _ c.loop-at.invariant.1)
