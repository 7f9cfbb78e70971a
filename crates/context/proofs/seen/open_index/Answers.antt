-- By what is tested, in turn; an index that is opened comes right below the others.
use native.Mathlib.Omega.{arith}
use Rattle.context.proofs.Laws.{opens-idle, opens-again, opens-full, opens_in}
use Rattle.context.proofs.seen.open_index.Goals as goal

pub returns-then-is_idle : goal.returns-then-is_idle
returns-then-is_idle c = record { is = opens-idle _ _ _ _ _ (cc); small = omega arith }

pub returns-then-has : goal.returns-then-has
returns-then-has c = record { is = opens-again c.args.p c.args.seen.now c.args.left c.args.way c.args.index.0 (cc) _ c.has.ensures _ c.if-has.true c.stopped.ensures; small = omega (arith, c.well_formed) }

pub returns-then-left-eq0 : goal.returns-then-left-eq0
returns-then-left-eq0 c = record { is = opens-full c.args.p c.args.seen.now c.args.left c.args.way c.args.index.0 (cc) _ c.has.ensures _ c.if-has.false c.if-left-eq0.true c.stopped-then-left-eq0.ensures; small = omega (arith, c.well_formed) }

pub returns : goal.returns
returns c = record { is = opens_in c.args.p c.args.seen.now c.args.left c.args.way c.args.index.0 (cc) _ c.has.ensures _ _ c.if-has.false c.if-left-eq0.false c.noted.ensures c.opened.ensures; small = omega (arith, c.well_formed) }
