-- The size of what the search found.
use Rattle.std.proofs.Common.{arith}
use Rattle.std.proofs.lemmas.Grind.{common_steps}
use Rattle.primitives.proofs.Table.{found-as}
use Rattle.primitives.proofs.primitive_size.Goals as goal

pub returns : goal.returns
returns c = grind (arith, common_steps, found-as (λ k. k.size) 0 c.args.code c.find_primitive.result c.find_primitive.ensures)
