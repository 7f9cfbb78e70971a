-- The invariant: the entries so far are noted, and what is left is walked from the next one's record.
use Rattle.streams.proofs.Noting.{Noting}
use Rattle.streams.proofs.places.behind_noting.Given as goal

abbrev pub invariant-loop-place : goal.invariant-loop-place
invariant-loop-place l = Noting l.s l.from l.count l.stride l.fn.places l.at l.left l.place-index l.place-items
