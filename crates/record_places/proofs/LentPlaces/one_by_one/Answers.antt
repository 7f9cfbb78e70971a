use native.Mathlib.Omega.{arith}
use Rattle.record_places.proofs.Laws.{entries-back, one-more, compared-done, compared-wrong, compared-beyond}
use Rattle.record_places.proofs.LentPlaces.one_by_one.Goals as goal

pub overflow_mul-left : goal.overflow_mul-left
overflow_mul-left c = omega (arith, entries-back c.args.self.now.count c.loop-k.k)

pub overflow_sub-left : goal.overflow_sub-left
overflow_sub-left c = omega (arith, entries-back c.args.self.now.count c.loop-k.k)

pub returns-then-not-holds : goal.returns-then-not-holds
returns-then-not-holds c = compared-wrong _ _ _ _ _ c.loop-k.invariant (omega arith) (cc) _ c.behind_records.ensures

pub returns-in_default : goal.returns-in_default
returns-in_default c = compared-beyond _ _ _ _ _ c.loop-k.invariant (cc)

pub loop-k-preserved : goal.loop-k-preserved
loop-k-preserved c = one-more _ _ _ _ _ c.loop-k.invariant (omega arith) (cc) _ (cc)

pub returns : goal.returns
returns c = compared-done _ _ _ _ _ c.loop-k.invariant (omega arith)
