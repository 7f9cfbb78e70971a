-- A run that has room is copied to the pen's place, or lies past the buffer's end; any other goes byte by byte.
use native.Mathlib.Omega.{arith}
use Prim.Native.Nat.{◌+◌, ◌-◌}
use lib.ListN.{length}
use Rattle.pen.proofs.Laws.{run-tells, wrote-run, wrote-past}
use Rattle.pen.proofs.text.Goals as goal

pub returns-then-end-out : goal.returns-then-end-out
returns-then-end-out c = wrote-run c.args.out.now c.copy.new.to c.args.s.now c.args.p _ _ (c.args.p.at + length c.args.s.now - c.args.p.at) (run-tells _ _ _ c.room.result c.in-Some.ensures.value c.room.ensures c.if-s-room.true) c.if-end-out.true (omega arith) c.copy.ensures c.past.ensures

pub returns-then-out-p : goal.returns-then-out-p
returns-then-out-p c = wrote-past c.args.out.now c.args.s.now c.args.p _ _ (run-tells _ _ _ c.room.result c.in-Some.ensures.value c.room.ensures c.if-s-room.true) c.if-out-p.true c.past-then-out-p.ensures
