-- The texts, then zeros.
use borrow.Author.Rules.{rules}
use native.Mathlib.Omega.{arith}
use Rattle.batch.proofs.BatchLaws.{laid-rest, batch-goes-on}
use Rattle.batch.proofs.texts_over.Goals as goal

pub returns : goal.returns
returns c = record { result_after = laid-rest c.lay_texts-laid.ensures c.clear.ensures; goes_on = batch-goes-on _ _ _ _ }
