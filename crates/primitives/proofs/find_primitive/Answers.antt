use Rattle.std.proofs.Common.{rules, refl, eqb}
use borrow.Author.Tests.{tests}
use Rattle.std.proofs.lemmas.Iterator.{YieldsList-from_slice}
use Rattle.std.proofs.lemmas.Iterator.Search.{find_from_yields_List}
use Rattle.primitives.specs.Primitive.{primitives}
use Rattle.primitives.proofs.Table.{found}
use Rattle.primitives.proofs.find_primitive.Goals as goal

pub returns : goal.returns
unfolding primitives
returns c =
    found c.args.code _ _ _ c.iter.ensures.rest refl (find_from_yields_List (λ k. eqb k.code c.args.code) _ _ c.find.result c.find.ensures.ran (YieldsList-from_slice _ refl) (λ x b q k. search (rules, tests)))
