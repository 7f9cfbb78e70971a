-- A part up to a stop past the end is the whole.
use native.Mathlib.Omega.{arith}
use mathlib.Core.Path.{sym}
use lib.Seq.{length-take-le}
use Rattle.streams.proofs.Walk.{take-shorter}
use borrow.Author.Rules.{rules}
use Rattle.checked_calls.proofs.kept.numbers_of.Goals as goal

pub slice_bounds-result-end : goal.slice_bounds-result-end
slice_bounds-result-end c = sym (length-take-le _ _ (omega (arith, c.split_of-n.ensures)))

pub returns : goal.returns
returns c = rw (c.split_of-n.ensures, take-shorter)
