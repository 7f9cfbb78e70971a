-- Each arm is a row of the table, or lies between two of them.
use Rattle.std.proofs.Common.{refl, arith}
use Rattle.utf8.specs.Utf8.{table, behind}
use Rattle.utf8.proofs.Laws.{of_row, no_row}
use Rattle.utf8.proofs.ranges_behind.Goals.{in_default-via-then-b-lt194, in_default-via-else-b-lt194+else-b-lt224+else-b-lt237+else-b-lt240+else-b-lt244}
use Rattle.utf8.proofs.ranges_behind.Goals as goal

pub returns-in-194-to-223 : goal.returns-in-194-to-223
unfolding table behind
returns-in-194-to-223 c = of_row table 1 c.args.b refl (omega arith) (omega arith)

pub returns-in-224 : goal.returns-in-224
unfolding table behind
returns-in-224 c = of_row table 2 c.args.b refl (omega arith) (omega arith)

pub returns-in-225-to-236 : goal.returns-in-225-to-236
unfolding table behind
returns-in-225-to-236 c = of_row table 3 c.args.b refl (omega arith) (omega arith)

pub returns-in-237 : goal.returns-in-237
unfolding table behind
returns-in-237 c = of_row table 4 c.args.b refl (omega arith) (omega arith)

pub returns-in-238-to-239 : goal.returns-in-238-to-239
unfolding table behind
returns-in-238-to-239 c = of_row table 5 c.args.b refl (omega arith) (omega arith)

pub returns-in-240 : goal.returns-in-240
unfolding table behind
returns-in-240 c = of_row table 6 c.args.b refl (omega arith) (omega arith)

pub returns-in-241-to-243 : goal.returns-in-241-to-243
unfolding table behind
returns-in-241-to-243 c = of_row table 7 c.args.b refl (omega arith) (omega arith)

pub returns-in-244 : goal.returns-in-244
unfolding table behind
returns-in-244 c = of_row table 8 c.args.b refl (omega arith) (omega arith)

pub returns-in_default : goal.returns-in_default
unfolding table behind
returns-in_default c =
    elim c.in_default.branch [
      | in_default-via-then-b-lt194 w ↦ no_row 128 193 c.args.b (omega arith) (omega arith) table refl
      | in_default-via-else-b-lt194+else-b-lt224+else-b-lt237+else-b-lt240+else-b-lt244 w ↦ no_row 245 255 c.args.b (omega arith) (omega arith) table refl
    ]
