-- With a text before it, and 15.
use borrow.Author.Rules.{rules}
use native.Mathlib.Omega.{arith}
use Rattle.batch.proofs.BatchLaws.{stays-text, stays-first, leaves_by}
use Rattle.batch.proofs.leaves_off.Goals as goal

pub returns-then-at-eq0 : goal.returns-then-at-eq0
returns-then-at-eq0 c = stays-first _ c.if-at-eq0.true

pub returns-in-Ok : goal.returns-in-Ok
returns-in-Ok c = stays-text _ c.in-Ok.is

pub returns-else-at-eq0 : goal.returns-else-at-eq0
returns-else-at-eq0 c = leaves_by _ c.in-Err.is (omega arith) c.number.ensures
