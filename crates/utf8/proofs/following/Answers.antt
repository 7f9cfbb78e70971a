-- The chain counts as long as each byte stands in its range.
use Rattle.std.proofs.Common.{rules, tests, ◌∙◌, ◌&&◌, leb}
use Rattle.std.specs.List.{zip}
use Rattle.std.proofs.lemmas.Iterator.{YieldsList-from_slice, YieldsList-from_zip}
use Rattle.std.proofs.lemmas.Iterator.Consumers.{count_from_yields_List}
use Rattle.std.proofs.lemmas.Iterator.Search.{YieldsList-from_take_while}
use Rattle.std.proofs.lemmas.List.Folds.{length-prefix_len}
use Rattle.utf8.proofs.Laws.{fit-prefix}
use Rattle.utf8.proofs.following.Goals as goal

pub returns : goal.returns
returns c =
    count_from_yields_List c.take_while.result _ c.count.ensures.ran (YieldsList-from_take_while _ (λ p. leb p.0.low p.1 && leb p.1 p.0.high) (YieldsList-from_zip (YieldsList-from_slice c.args.ranges.now (cc)) (YieldsList-from_slice c.args.s.now (cc))) c.take_while.ensures.closure c.take_while.ensures.done (λ x b q k. search (rules, tests)))
    ∙ length-prefix_len (λ p. leb p.0.low p.1 && leb p.1 p.0.high) (zip c.args.ranges.now c.args.s.now)
    ∙ fit-prefix c.args.ranges.now c.args.s.now
