-- No level yet, one more, and all.
use borrow.Author.Rules.{rules}
use native.Mathlib.Omega.{arith}
use Prim.Native.Nat.{◌-◌}
use mathlib.Core.Path.{◌≡◌, refl, ap}
use lib.ListN.{length, drop}
use Rattle.pen.proofs.Laws.{◌▹◌, wrote_as, wrote_by, wrote_none}
use Rattle.context.specs.Context.{sizes_of}
use Rattle.leaf_writers.proofs.BracketsLaws.{brackets-start, brackets-turn, brackets-whole, drop_past}
use Rattle.leaf_writers.proofs.brackets.emit_brackets.Goals as goal

pub loop-n-init : goal.loop-n-init
loop-n-init c = let e : length c.args.o.items ≡ 32 = search rules in (omega arith, (λ h. drop_past c.args.o.items c.args.o.left c.args.size e h), wrote_as (brackets-start c.args.o.items c.args.o.left c.args.size e) wrote_none)

pub loop-n-preserved : goal.loop-n-preserved
loop-n-preserved c = let e : length c.args.o.items ≡ 32 = search rules in (omega arith, (λ h. let k : c.loop-n.n - 1 ≡ c.args.o.left = omega arith in ap (λ k. drop k c.args.o.items) k), wrote_by (c.loop-n.invariant.2 ▹ c.emit_bracket-q.ensures) (brackets-turn c.args.o.items c.args.o.left c.args.size e c.loop-n.n _ _ c.loop-n-test.true c.loop-n.invariant.0 refl c.size_inside.ensures))

pub returns : goal.returns
unfolding sizes_of
returns c = let e : length c.args.o.items ≡ 32 = search rules in wrote_by c.loop-n.invariant.2 (brackets-whole c.args.o.items c.args.o.left c.args.size e c.loop-n.n (omega arith) (c.loop-n.invariant.1 (omega arith)))
