-- The definition, of numbers that fit.
use Rattle.std.proofs.Common.{rules, arith, refl}
use Rattle.type_formatter.proofs.Once.{places-none, places-low}
use Rattle.checked_calls.specs.Kept.{places_for}
use Rattle.type_formatter.proofs.checked.places_for.Goals as goal

pub returns-then-stride-eq0 : goal.returns-then-stride-eq0
returns-then-stride-eq0 c = (places-none _ _ c.if-stride-eq0.true, omega arith)

pub returns : goal.returns
unfolding places_for
returns c = (refl, places-low c.args.stride c.args.n (search rules) (search rules))
