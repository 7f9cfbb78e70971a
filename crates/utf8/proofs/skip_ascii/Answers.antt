-- Each eight that is passed over is ASCII.
use Rattle.std.proofs.Common.{rules, tests, ◌≡◌, ◌∙◌, ltb, drop}
use Rattle.std.specs.List.{list_all}
use Rattle.std.proofs.lemmas.List.{take_rest}
use Rattle.std.proofs.lemmas.Iterator.{YieldsList-from_slice}
use Rattle.std.proofs.lemmas.Iterator.Consumers.{count_from_yields_List}
use Rattle.std.proofs.lemmas.Iterator.Search.{YieldsList-from_take_while}
use Rattle.std.proofs.lemmas.List.Folds.{length-prefix_len}
use Rattle.utf8.proofs.Laws.{eights_skipped}
use Rattle.utf8.proofs.skip_ascii.Goals as goal

pub returns : goal.returns
returns c =
    let k : c.in-Some.rest.now ≡ drop c.args.from c.args.s.now = c.in-Some.ensures.lookup.0.2 ∙ take_rest c.args.s.now c.args.from in
    eights_skipped c.args.s.now c.args.from _ _ _ k c.as_chunks.ensures.front
    (count_from_yields_List c.take_while.result _ c.count.ensures.ran (YieldsList-from_take_while _ (list_all (λ b. ltb b 128)) (YieldsList-from_slice c.as_chunks.result.0.now (cc)) c.take_while.ensures.closure c.take_while.ensures.done (λ x b q k. search (rules, tests)))
    ∙ length-prefix_len _ c.as_chunks.result.0.now)
