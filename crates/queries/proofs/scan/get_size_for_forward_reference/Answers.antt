use borrow.Author.Rules.{rules}
use Rattle.streams.proofs.Marks.{nearest-onward}
use Rattle.queries.proofs.FullLaws.{range-none, range-first, range-over, range-full, range-next}
use Rattle.queries.proofs.scan.get_size_for_forward_reference.Goals as goal

pub returns-then-stream-i : goal.returns-then-stream-i
returns-then-stream-i c = range-none _ _ _ _ c.stream_in-stream.ensures c.spacing_in-l.ensures _ c.if-stream-i.true

pub loop-at-init : goal.loop-at-init
loop-at-init c = range-first _ _ _ _ c.stream_in-stream.ensures c.spacing_in-l.ensures _ c.if-stream-i.false c.max.ensures c.max-at.ensures

pub between-requires : goal.between-requires
between-requires c = search (nearest-onward, rules)

pub returns-in-Some : goal.returns-in-Some
returns-in-Some c = range-full _ _ _ _ c.stream_in-stream.ensures c.spacing_in-l.ensures c.loop-at.invariant c.loop-at-test.true c.stretch_end-stop.ensures c.start_of-from.ensures c.between.ensures _ c.in-Some.is

pub loop-at-preserved : goal.loop-at-preserved
loop-at-preserved c = range-next _ _ _ _ c.stream_in-stream.ensures c.spacing_in-l.ensures c.loop-at.invariant c.loop-at-test.true c.stretch_end-stop.ensures c.start_of-from.ensures c.between.ensures c.in_default.is

pub returns : goal.returns
returns c = range-over _ _ _ _ c.stream_in-stream.ensures c.spacing_in-l.ensures c.loop-at.invariant c.loop-at-test.false
