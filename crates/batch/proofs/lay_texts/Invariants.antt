-- The invariant: what is laid so far, with the batch of the indexes behind, is the whole batch. The measure is what is left of the indexes.
use borrow.Author.Rules.{rules}
use Prim.Native.Nat.{◌+◌, ◌-◌, ◌*◌}
use mathlib.Core.Path.{◌≡◌, sym, ◌∙◌}
use lib.ListN.{length, length-take, length-drop}
use native.Mathlib.Omega.{arith}
use Rattle.rules.specs.Places.{near_in}
use Rattle.batch.specs.Batch.{texts_over}
use Rattle.batch.proofs.BatchLaws.{Going, answers-length, after-length, value-fits, going-first, going-over, going-full, going_on, texts-grow}
use Rattle.batch.proofs.lay_texts.Given as goal

abbrev pub invariant-loop-done : goal.invariant-loop-done
invariant-loop-done l = Going (texts_over l.which l.lent.types.now l.lent.ids.now (near_in l.lent) l.flags l.size) l.initial.out l.initial.answers l.indexes l.out l.answers l.done l.bytes

abbrev pub decreases-loop-done : goal.decreases-loop-done
decreases-loop-done l = length l.indexes - l.done
