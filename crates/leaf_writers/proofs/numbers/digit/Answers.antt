-- A digit is below 16, so no step passes 102.
use native.Mathlib.Omega.{arith}
use Rattle.leaf_writers.proofs.NumbersLaws.{digit-is}
use Rattle.leaf_writers.proofs.numbers.digit.Goals as goal

pub returns : goal.returns
returns c = digit-is _ _ (λ h. omega (arith, c.requires)) (λ h. omega (arith, c.requires))
