use borrow.Author.Rules.{rules}
use Prim.Native.Nat.{◌+◌, ◌-◌, ◌*◌}
use mathlib.Core.Path.{◌≡◌, sym, ◌∙◌}
use lib.ListN.{length, length-take, length-drop}
use native.Mathlib.Omega.{arith}
use Rattle.rules.specs.Places.{near_in}
use Rattle.batch.specs.Batch.{texts_over}
use Rattle.batch.proofs.BatchLaws.{Going, answers-length, after-length, value-fits, going-first, going-over, going-full, going_on, texts-grow}
use Rattle.batch.proofs.lay_texts.Goals as goal

pub loop-done-init : goal.loop-done-init
loop-done-init c = going-first _ _ _ _

pub returns-then-leaves_off : goal.returns-then-leaves_off
returns-then-leaves_off c = going-full _ _ _ _ c.loop-done.invariant c.min-n.ensures (omega arith) c.text_of-a.new.out _ c.text_of-a.ensures (search rules) (sym c.leaves_off.ensures ∙ c.if-leaves_off.true)

pub overflow_add-at : goal.overflow_add-at
overflow_add-at c = omega (arith, c.min-n.ensures)

pub slice_bounds-note-end : goal.slice_bounds-note-end
slice_bounds-note-end c = let l = answers-length _ _ _ _ c.loop-done.invariant in omega (arith, c.min-n.ensures)

pub note-bytes-requires : goal.note-bytes-requires
note-bytes-requires c = let l = answers-length _ _ _ _ c.loop-done.invariant in simp (length-take, length-drop) (omega (arith, c.min-n.ensures))

pub overflow_add-bytes : goal.overflow_add-bytes
overflow_add-bytes c = let v = value-fits _ _ _ _ c.loop-done.invariant c.min-n.ensures (omega arith) c.text_of-a.new.out _ c.text_of-a.ensures (search rules) (texts-grow _ _ _ _ _ _) (sym c.leaves_off.ensures ∙ c.if-leaves_off.false) in omega (arith, c.note-bytes.ensures.0)

pub loop-done-preserved : goal.loop-done-preserved
loop-done-preserved c = going_on _ _ _ _ c.loop-done.invariant c.min-n.ensures (omega arith) c.text_of-a.new.out _ c.text_of-a.ensures (search rules) (texts-grow _ _ _ _ _ _) (sym c.leaves_off.ensures ∙ c.if-leaves_off.false) _ ((4 * c.loop-done.done + 4) - 4 * c.loop-done.done) _ c.note-bytes.ensures.1 (omega arith) c.note-bytes.ensures.0

pub returns : goal.returns
returns c = going-over _ _ _ _ c.loop-done.invariant c.min-n.ensures (omega arith)

pub shape_of-out-then-leaves_off : goal.shape_of-out-then-leaves_off
shape_of-out-then-leaves_off c = after-length _ _ _ _ c.loop-done.invariant c.min-n.ensures (omega arith) c.text_of-a.new.out _ c.text_of-a.ensures (search rules)

pub shape_of-answers-then-leaves_off : goal.shape_of-answers-then-leaves_off
shape_of-answers-then-leaves_off c = answers-length _ _ _ _ c.loop-done.invariant

pub shape_of-out : goal.shape_of-out
shape_of-out c = c.loop-done.invariant.long

pub shape_of-answers : goal.shape_of-answers
shape_of-answers c = answers-length _ _ _ _ c.loop-done.invariant
