-- The tests are made one after another, and joined.
use Rattle.std.proofs.Common.{rules, tests, true, ◌∙◌, ◌&&◌, ltb}
use Rattle.std.proofs.lemmas.Iterator.{YieldsList-from_slice}
use Rattle.std.proofs.lemmas.Iterator.Consumers.{fold_from_yields_List}
use Rattle.utf8.proofs.Laws.{all-at-once}
use Rattle.utf8.proofs.is_ascii.Goals as goal

pub returns : goal.returns
returns c = fold_from_yields_List _ (λ t b. t && ltb b 128) true _ c.fold.ensures.ran (YieldsList-from_slice c.args.eight.now (cc)) (λ a x b q k. search (rules, tests)) ∙ all-at-once c.args.eight.now true
