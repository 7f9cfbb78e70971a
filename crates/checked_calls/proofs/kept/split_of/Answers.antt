-- The 19 numbers and so many places, or all.
use native.Mathlib.Omega.{arith}
use borrow.Author.Rules.{rules}
use Rattle.checked_calls.proofs.kept.split_of.Goals as goal

pub overflow_add-wide : goal.overflow_add-wide
overflow_add-wide c = omega (arith, c.wide.ensures)

pub returns : goal.returns
returns c = rw (c.min.ensures, c.wide.ensures, c.number_at.ensures)
