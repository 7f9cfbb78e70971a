-- What the search found is some kind where the definition's search says so.
use Rattle.std.proofs.Common.{true, false, arith}
use Rattle.std.proofs.lemmas.Grind.{common_steps}
use Rattle.primitives.proofs.Table.{found-as}
use Rattle.primitives.proofs.is_listed.Goals as goal

pub returns : goal.returns
returns c = grind (arith, common_steps, found-as (λ _. true) false c.args.code c.find_primitive.result c.find_primitive.ensures)
