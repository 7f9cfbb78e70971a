-- The part is of an ASCII byte, of a byte that begins no sequence, or of the ranges behind it and the bytes that stand in them.
use Rattle.std.proofs.Common.{rules, ◌≡◌, ◌∙◌, sym, Err, Some, None, get_or, arith}
use borrow.Author.Tests.{eq-eqb, ne_eqb}
use Rattle.utf8.specs.Utf8.{behind}
use Rattle.utf8.proofs.Laws.{fitting-le, part-ascii, part-none, part-some}
use Rattle.utf8.proofs.part_at.Goals as goal

pub returns-then-b-lt128 : goal.returns-then-b-lt128
returns-then-b-lt128 c = sym (part-ascii c.args.s.now c.args.at c.if-b-lt128.true)

pub returns-in_err-ranges : goal.returns-in_err-ranges
returns-in_err-ranges c =
    let h : c.from_residual.result ≡ Err 1 = search rules in
    let k : behind (get_or c.args.s.now c.args.at 0) ≡ None = search rules in
    h ∙ sym (part-none c.args.s.now c.args.at k)

pub overflow_add-result-else-n-ranges : goal.overflow_add-result-else-n-ranges
overflow_add-result-else-n-ranges c = omega (arith, fitting-le, c.following-n.ensures)

pub returns-then-n-ranges : goal.returns-then-n-ranges
returns-then-n-ranges c =
    let k : behind (get_or c.args.s.now c.args.at 0) ≡ Some c.in_ok-ranges.ranges.now = search rules in
    rw (part-some c.args.s.now c.args.at _ _ k c.following-n.ensures, eq-eqb _ _ c.if-n-ranges.true)

pub returns-else-n-ranges : goal.returns-else-n-ranges
returns-else-n-ranges c =
    let k : behind (get_or c.args.s.now c.args.at 0) ≡ Some c.in_ok-ranges.ranges.now = search rules in
    rw (part-some c.args.s.now c.args.at _ _ k c.following-n.ensures, ne_eqb _ _ c.if-n-ranges.false)
