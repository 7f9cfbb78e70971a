-- The invariant: what the records from the cursor's index on say is what all say. The measure is what is left of the indexes.
use Rattle.queries.proofs.FullLaws.{Scanning, left_of}
use Rattle.queries.proofs.scan.Scan.between.Given as goal

abbrev pub invariant-loop-at : goal.invariant-loop-at
invariant-loop-at l = Scanning l.self.types.now l.self.stream l.fn.from l.stop l.self.name.now l.start l.at

abbrev pub decreases-loop-at : goal.decreases-loop-at
decreases-loop-at l = left_of l.self.stream l.at
