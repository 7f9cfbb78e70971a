use borrow.Author.Rules.{rules}
use Rattle.context.specs.Context.{no_dimensions, pushed_dimension}
use Rattle.queries.specs.Arrays.{array_info}
use Rattle.queries.proofs.ArraysLaws.{levels-end, levels-unread, levels-long, levels-more}
use Rattle.queries.proofs.arrays.get_array_info.Goals as goal

pub loop-t-init : goal.loop-t-init
unfolding array_info no_dimensions pushed_dimension
loop-t-init c = search rules

pub returns-in-Err : goal.returns-in-Err
returns-in-Err c = levels-unread _ _ _ _ _ _ _ c.loop-t.invariant.same c.in-Err.f (search rules) _ (search rules)

pub returns-in_default : goal.returns-in_default
returns-in_default c = levels-end _ _ _ _ _ _ _ c.loop-t.invariant.same _ (search rules) c.in_default.not-Array

pub returns-then-left-eq0 : goal.returns-then-left-eq0
returns-then-left-eq0 c = levels-long _ _ _ _ _ _ _ c.loop-t.invariant.same c.in-Array.a (search rules) c.if-left-eq0.true

pub loop-t-preserved : goal.loop-t-preserved
unfolding pushed_dimension
loop-t-preserved c = record { room = search rules; same = levels-more _ _ _ _ _ _ _ c.loop-t.invariant.same c.in-Array.a (search rules) c.if-left-eq0.false }
