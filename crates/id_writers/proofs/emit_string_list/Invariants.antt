-- Whatever the rest of the list makes of the page, the whole makes of the first page.
use Rattle.std.proofs.Common.{◌≤◌, ◌≡◌, length, false, []}
use Rattle.pen.specs.Page.{page}
use Rattle.wire.specs.Text.{bytes}
use Rattle.rules.specs.Places.{lent_in}
use Rattle.emit.proofs.Laws.{Rest}
use Rattle.id_writers.proofs.emit_string_list.Given as goal

abbrev pub invariant-loop-i : goal.invariant-loop-i
invariant-loop-i l = (l.i ≤ l.e.count) × (length l.out ≡ length l.initial.out) × (length l.list ≡ 96) × Rest l.lent.types.now (lent_in l.lent) l.call [] l.lent.ids.now (bytes "\" \"") l.e false l.between l.i (page l.out l.q) (page l.initial.out l.initial.q)
