-- What the header says, or nothing.
use Rattle.std.proofs.Common.{rules, arith}
use Rattle.streams.proofs.Walk.{header-good, header-broken, header-within, header-small}
use Rattle.checked_calls.specs.Kept.{record_count}
use Rattle.type_formatter.proofs.checked.record_count.Goals as goal

pub returns-in_default : goal.returns-in_default
unfolding record_count
returns-in_default c = rw (header-broken _ c.header_of.ensures c.in_default.is)

pub overflow_sub-end : goal.overflow_sub-end
overflow_sub-end c = (header-within _ c.header_of.ensures _ _ _ c.in-Some.is).0

pub overflow_cast-stop : goal.overflow_cast-stop
overflow_cast-stop c = omega (arith, (header-within _ c.header_of.ensures _ _ _ c.in-Some.is).1, header-small _ c.header_of.ensures _ _ _ c.in-Some.is)

pub returns : goal.returns
unfolding record_count
returns c = rw (header-good _ c.header_of.ensures _ _ _ c.in-Some.is) (search rules)
