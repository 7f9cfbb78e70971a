use borrow.Author.Rules.{rules}
use mathlib.Core.Path.{refl}
use Rattle.queries.proofs.FullLaws.{scan-over, scan-past, scan-full, scan-next, scan-less}
use Rattle.queries.proofs.scan.Scan.between.Goals as goal

pub returns-then-stop-c : goal.returns-then-stop-c
returns-then-stop-c c = search (scan-past, rules)

pub returns-in-Some : goal.returns-in-Some
returns-in-Some c = scan-full _ _ _ _ _ _ c.loop-at.invariant c.in-Ok.is c.if-stop-c.false refl c.at.ensures _ c.in-Some.is

pub loop-at-smaller : goal.loop-at-smaller
loop-at-smaller c = scan-less _ _ _ _ _ _ c.loop-at.invariant c.in-Ok.is c.next_cursor-at.ensures

pub loop-at-preserved : goal.loop-at-preserved
loop-at-preserved c = scan-next _ _ _ _ _ _ c.loop-at.invariant c.in-Ok.is c.if-stop-c.false refl c.at.ensures c.in_default-at.is c.next_cursor-at.ensures

pub returns : goal.returns
returns c = scan-over _ _ _ _ _ _ c.loop-at.invariant c.in_default.not-Ok
