-- The name of what the search found.
use Rattle.std.proofs.Common.{[], ◌≡◌, arith}
use Rattle.std.proofs.lemmas.Grind.{common_steps}
use Rattle.primitives.specs.Primitive.{primitives, first_of}
use Rattle.primitives.proofs.Table.{found-as, name-short}
use Rattle.primitives.proofs.kind_name.Goals as goal

pub returns : goal.returns
returns c =
    let h : c.map_or.result.now ≡ first_of c.args.code primitives (λ k. k.name) [] = grind (arith, common_steps, found-as (λ k. k.name) [] c.args.code c.find_primitive.result c.find_primitive.ensures) in
    (h, rw (← h) at (name-short c.args.code))
