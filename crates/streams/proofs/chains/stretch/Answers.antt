-- No step where a place is not before its goal.
use Rattle.streams.proofs.Chained.{stretched_start}
use Rattle.streams.proofs.chains.stretch.Goals as goal

pub returns : goal.returns
returns c = stretched_start _ _ _
