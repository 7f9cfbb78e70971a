-- No digit yet, the highest digit, one digit more, and no room for more.
use mathlib.Core.Path.{sym, ◌∙◌}
use lib.ListN.{length-set}
use native.Mathlib.Omega.{arith}
use Rattle.leaf_writers.proofs.NumbersLaws.{digits-none, digits_last, digits_more, digits-all}
use Rattle.leaf_writers.proofs.numbers.digits.Goals as goal

pub loop-at-init : goal.loop-at-init
loop-at-init c = digits-none _ c.args.n c.args.buf.now

pub returns-then-rest-base : goal.returns-then-rest-base
returns-then-rest-base c = (rw length-set (omega arith), sym (c.loop-at.invariant ∙ digits_last _ _ _ _ _ (omega arith) (omega arith) c.if-rest-base.true c.digit.ensures))

pub loop-at-preserved : goal.loop-at-preserved
loop-at-preserved c = c.loop-at.invariant ∙ digits_more _ _ _ _ _ (omega arith) (omega arith) c.if-rest-base.false c.digit.ensures

pub returns : goal.returns
returns c = (omega arith, sym (c.loop-at.invariant ∙ digits-all _ _ _ _ (omega arith)))
