use Rattle.std.proofs.Common.{◌+◌, ◌-◌, refl, arith}
use Rattle.streams.proofs.Chained.{together_start, together_step, linked_far}
use Rattle.streams.specs.Chains.{Stepped}
use Rattle.streams.proofs.Walk.{passed-grows}
use Rattle.streams.proofs.chains.lockstep.Goals.{After-stretch-t}
use Rattle.streams.proofs.chains.lockstep.Goals as goal

pub loop-pace-init : goal.loop-pace-init
loop-pace-init c = (together_start _ _ _ _ _ _ _, refl, record { first = refl; second = refl; third = refl; fourth = refl })

pub note-requires : goal.note-requires
note-requires c = let f = linked_far _ _ _ _ _ _ c.loop-pace.invariant.0.first (omega arith) in omega arith

pub note-requires-in-loop-pace : goal.note-requires-in-loop-pace
note-requires-in-loop-pace c = let f = linked_far _ _ _ _ _ _ c.loop-pace.invariant.0.second (omega arith) in omega arith

pub note-requires-in-loop-pace-2 : goal.note-requires-in-loop-pace-2
note-requires-in-loop-pace-2 c = let f = linked_far _ _ _ _ _ _ c.loop-pace.invariant.0.third (omega arith) in omega arith

pub note-due-requires : goal.note-due-requires
note-due-requires c = let f = linked_far _ _ _ _ _ _ c.loop-pace.invariant.0.fourth (omega arith) in omega arith

-- One turn of the loop.
turn : (c : After-stretch-t) → Stepped c.args.s.now c.args.starts c.args.stride c.args.a.now c.args.b.now c.args.c.now c.args.d.now c.note.new.part c.note-in-loop-pace.new.part c.note-in-loop-pace-2.new.part c.note-due.new.part
    (record { at = c.stretch-t.result.at; pace = record { n = c.note-due.result.n + c.stretch-t.result.n; k = c.note-due.result.k; wait = c.note-due.result.wait - c.stretch-t.result.n } })
turn c = together_step _ _ _ c.requires.4 c.loop-pace.invariant.2 c.loop-pace.invariant.0 c.note.ensures c.note-in-loop-pace.ensures c.note-in-loop-pace-2.ensures c.note-due.ensures c.stretch-t.ensures

pub overflow_add-pace : goal.overflow_add-pace
overflow_add-pace c = let f = linked_far _ _ _ _ _ _ (turn (goal.at.overflow_add-pace c).After-stretch-t).linked.first (omega arith) in omega arith

pub returns-then-pace-gt0 : goal.returns-then-pace-gt0
returns-then-pace-gt0 c = turn (goal.at.returns-then-pace-gt0 c).After-stretch-t

pub loop-pace-smaller : goal.loop-pace-smaller
loop-pace-smaller c =
    let w = c.note-due.ensures.waits (omega arith) in
    let f = linked_far _ _ _ _ _ _ (turn (goal.at.loop-pace-smaller c).After-stretch-t).linked.first (omega arith) in
    omega (arith, passed-grows _ _ _ _ c.stretch-t.ensures.first)

pub loop-pace-preserved : goal.loop-pace-preserved
loop-pace-preserved c = let t = turn (goal.at.loop-pace-preserved c).After-stretch-t in (t.linked, omega arith, t.sized)
