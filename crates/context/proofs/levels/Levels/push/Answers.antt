-- What is set below a stack is its newest.
use borrow.Author.Rules.{rules}
use native.Mathlib.Omega.{arith}
use Rattle.context.specs.Context.{level_at, levels_of, pushed_level}
use Rattle.context.proofs.Laws.{levels-push, unpacked}
use mathlib.Core.Path.{◌≡◌, refl, ap, ◌∙◌}
use lib.ListN.{length}
use Rattle.context.proofs.levels.Levels.push.Goals as goal

pub returns : goal.returns
unfolding levels_of pushed_level
returns c = let n : length c.args.self.items ≡ 96 = search rules in record { is = rw c.from.ensures; left = refl; levels = levels-push c.args.self.items c.args.self.left c.from.result _ (omega (arith, c.requires)) (omega (arith, c.requires)) (ap level_at c.from.ensures ∙ unpacked _ _ _) }
