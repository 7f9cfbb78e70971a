-- How many numbers serve goes by both streams.
use Rattle.checked_calls.specs.Kept.{serving}
use Rattle.type_formatter.proofs.checked.check_streams.Goals as goal

pub returns-then-checked-lt19-clause-value : goal.returns-then-checked-lt19-clause-value
unfolding serving
returns-then-checked-lt19-clause-value c = rw (c.places_for-needed.ensures.0, c.places_for.ensures.0, c.record_count.ensures, c.record_count-2.ensures)

pub returns-clause-value : goal.returns-clause-value
unfolding serving
returns-clause-value c = rw (c.places_for-needed.ensures.0, c.places_for.ensures.0, c.record_count.ensures, c.record_count-2.ensures)
