use Rattle.std.proofs.Common.{rules, arith}
use Rattle.sheet.proofs.SheetLaws.{Going, going-first, going-over, going-set, going-line, going-last, line-full, last-full, going-length, going-at, inside-set, inside-last, inside-line, less-set, less-line, put-length}
use Rattle.sheet.proofs.put_lines.Goals as goal

pub loop-s-init : goal.loop-s-init
loop-s-init c = rw c.first_state-s.ensures (going-first _ _ _ _ (omega arith))

pub returns-in-Over : goal.returns-in-Over
returns-in-Over c = going-over _ _ _ _ c.loop-s.invariant c.command_at-c.ensures c.step_of.ensures c.in-Over.is c.done.ensures

pub after-s-requires : goal.after-s-requires
after-s-requires c = let i = inside-set _ _ _ _ c.loop-s.invariant c.command_at-c.ensures c.step_of.ensures c.in-Setting.is in (omega (arith, c.loop-s.invariant.short), omega (arith, c.loop-s.invariant.short, c.loop-s.invariant.low))

pub loop-s-smaller-in-Setting : goal.loop-s-smaller-in-Setting
loop-s-smaller-in-Setting c = less-set _ _ _ _ c.loop-s.invariant c.command_at-c.ensures c.step_of.ensures c.in-Setting.is c.after-s.ensures

pub loop-s-preserved-in-Setting : goal.loop-s-preserved-in-Setting
loop-s-preserved-in-Setting c = going-set _ _ _ _ c.loop-s.invariant c.command_at-c.ensures c.step_of.ensures c.after-s.ensures c.in-Setting.is

pub put_line-requires : goal.put_line-requires
put_line-requires c = let i = inside-last _ _ _ _ c.loop-s.invariant c.command_at-c.ensures c.step_of.ensures c.in-Last.is in (going-at _ _ _ _ c.loop-s.invariant, (omega (arith, c.loop-s.invariant.short), omega (arith, c.loop-s.invariant.short, c.loop-s.invariant.low)))

pub returns-in_default : goal.returns-in_default
returns-in_default c = last-full _ _ _ _ c.loop-s.invariant c.command_at-c.ensures c.step_of.ensures c.in-Last.is c.in_default.is c.put_line.ensures c.done-in_default.ensures

pub overflow_add-s : goal.overflow_add-s
overflow_add-s c = let i = inside-last _ _ _ _ c.loop-s.invariant c.command_at-c.ensures c.step_of.ensures c.in-Last.is in omega (arith, c.loop-s.invariant.short, c.loop-s.invariant.low)

pub returns-in-Last : goal.returns-in-Last
returns-in-Last c = going-last _ _ _ _ c.loop-s.invariant c.command_at-c.ensures c.step_of.ensures c.in-Last.is c.in-Some.is c.put_line.ensures c.done-in-Last.ensures

pub put_line-requires-in-Line : goal.put_line-requires-in-Line
put_line-requires-in-Line c = let i = inside-line _ _ _ _ c.loop-s.invariant c.command_at-c.ensures c.step_of.ensures c.in-Line.is in (going-at _ _ _ _ c.loop-s.invariant, (omega (arith, c.loop-s.invariant.short), omega (arith, c.loop-s.invariant.short, c.loop-s.invariant.low)))

pub returns-in_default-put_line : goal.returns-in_default-put_line
returns-in_default-put_line c = line-full _ _ _ _ c.loop-s.invariant c.command_at-c.ensures c.step_of.ensures c.in-Line.is c.in_default-put_line.is c.put_line-in-Line.ensures c.done-in_default-put_line.ensures

pub after-s-requires-in-Line : goal.after-s-requires-in-Line
after-s-requires-in-Line c = let i = inside-line _ _ _ _ c.loop-s.invariant c.command_at-c.ensures c.step_of.ensures c.in-Line.is in (omega (arith, c.loop-s.invariant.short), omega (arith, c.loop-s.invariant.short, c.loop-s.invariant.low))

pub loop-s-smaller : goal.loop-s-smaller
loop-s-smaller c = less-line _ _ _ _ c.loop-s.invariant c.command_at-c.ensures c.step_of.ensures c.in-Line.is c.after-s-in-Line.ensures

pub loop-s-preserved : goal.loop-s-preserved
loop-s-preserved c = going-line _ _ _ _ c.loop-s.invariant c.command_at-c.ensures c.step_of.ensures c.after-s-in-Line.ensures c.in-Line.is c.in-Some-put_line.is c.put_line-in-Line.ensures
