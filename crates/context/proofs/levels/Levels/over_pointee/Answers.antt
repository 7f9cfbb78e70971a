-- The newest level is the one at `left`.
use borrow.Author.Rules.{rules}
use native.Mathlib.Omega.{arith}
use Rattle.context.specs.Context.{level_at, levels_of}
use Rattle.context.proofs.Laws.{over-newest, over-read, over-is, unpacked}
use mathlib.Core.Path.{◌≡◌, refl, ap, ◌∙◌}
use lib.ListN.{length}
use Rattle.context.proofs.levels.Levels.over_pointee.Goals as goal

pub returns-then-self-lt96 : goal.returns-then-self-lt96
unfolding levels_of
returns-then-self-lt96 c = let n : length c.args.self.items ≡ 96 = search rules in record { is = over-is c.args.self _ c.args.constant _ c.if-self-lt96.true c.from-l.ensures c.from.ensures; left = refl; levels = over-newest c.args.self.items c.args.self.left c.from.result c.args.constant (omega arith) (ap level_at c.from.ensures ∙ unpacked _ _ _ ∙ over-read _ _ _ c.from-l.ensures) }
