-- A byte that is no digit, a number too large, one digit more, and the end.
use mathlib.Core.Path.{sym, ◌∙◌}
use native.Mathlib.Omega.{arith}
use Rattle.leaf_writers.proofs.AnonymousLaws.{below_next, below_other, below-over, below_all}
use Rattle.leaf_writers.proofs.strings.hex_below.Goals as goal

pub returns-in_default : goal.returns-in_default
returns-in_default c = sym (below_other c.args.s.now c.loop-b.n c.loop-b.b-index (omega arith) (cc)) ∙ c.loop-b.invariant.1

pub returns-then-n-ge4294967296 : goal.returns-then-n-ge4294967296
returns-then-n-ge4294967296 c = sym (below-over c.args.s.now c.loop-b.n c.loop-b.b-index (omega arith) _ (cc) c.if-n-ge4294967296.true) ∙ c.loop-b.invariant.1

pub loop-b-preserved : goal.loop-b-preserved
loop-b-preserved c = (c.if-n-ge4294967296.false, sym (below_next c.args.s.now c.loop-b.n c.loop-b.b-index (omega arith) _ (cc)) ∙ c.loop-b.invariant.1)

pub returns : goal.returns
returns c = sym (below_all c.args.s.now c.loop-b.n c.loop-b.b-index (omega arith) c.loop-b.invariant.0) ∙ c.loop-b.invariant.1
