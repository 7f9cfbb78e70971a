-- The invariant: the first j of each of the four parts lead to the next.
use Rattle.record_places.proofs.Laws.{Led}
use Rattle.record_places.proofs.LentPlaces.block_leads.Given as goal

abbrev pub invariant-loop-j : goal.invariant-loop-j
invariant-loop-j l = Led l.self.records.now l.self.places.now l.k l.apart l.j
