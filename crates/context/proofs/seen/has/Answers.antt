-- All keys are asked, and the answers joined.
use Rattle.std.proofs.Common.{rules, tests, false, ◌∙◌, ◌||◌, ◌%◌, eqb}
use Rattle.std.proofs.lemmas.Iterator.{YieldsList-from_slice}
use Rattle.std.proofs.lemmas.Iterator.Consumers.{fold_from_yields_List}
use Rattle.context.proofs.Laws.{any-at-once}
use Rattle.context.proofs.seen.has.Goals as goal

pub returns : goal.returns
returns c = fold_from_yields_List _ (λ t k. t || eqb (k % 4294967296) c.args.index) false _ c.fold.ensures.ran (YieldsList-from_slice c.args.keys.now (cc)) (λ a x b q k. search (rules, tests)) ∙ any-at-once _ c.args.keys.now false
