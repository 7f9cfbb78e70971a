-- One level more, and none is left.
use borrow.Author.Rules.{rules}
use native.Mathlib.Omega.{arith}
use mathlib.Core.Path.{◌≡◌}
use lib.ListN.{length}
use Rattle.context.specs.Context.{levels_of}
use Rattle.leaf_writers.proofs.SignsLaws.{levels-turn, levels-end}
use Rattle.leaf_writers.proofs.attributes.emit_attributes.Goals as goal

pub loop-i-preserved : goal.loop-i-preserved
loop-i-preserved c = let n : length c.args.o.items ≡ 96 = search rules in levels-turn _ _ _ c.args.o.items c.loop-i.i c.from-l.result _ _ _ _ (omega arith) c.from-l.ensures c.loop-i.invariant c.emit_level-q.ensures

pub returns : goal.returns
unfolding levels_of
returns c = let n : length c.args.o.items ≡ 96 = search rules in levels-end _ _ _ c.args.o.items c.loop-i.i _ _ _ (omega arith) c.loop-i.invariant
