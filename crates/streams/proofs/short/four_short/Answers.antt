use Rattle.std.proofs.Common.{◌≤◌, ◌+◌, ◌*◌, length, ap, sym, ◌∙◌, arith}
use Rattle.std.proofs.lemmas.Grind.{common_steps}
use Rattle.streams.specs.declared.places.Spacing.{Spacing}
use Rattle.streams.proofs.Chained.{chains_few, chains_meet}
use Rattle.streams.proofs.short.four_short.Goals.{In_ok-h}
use Rattle.streams.proofs.short.four_short.Goals as goal

few : (c : In_ok-h) → 56 + 4 * (c.in_ok-e.e + c.in_ok-f.f + c.in_ok-g.g + c.in_ok-h.h) ≤ length c.args.s.now
few c = chains_few c.args.s.now c.args.starts 1 64 (omega arith) (omega arith) (record { second = omega arith; third = omega arith; fourth = omega arith }) c.in_ok-e.ensures c.in_ok-f.ensures c.in_ok-g.ensures c.in_ok-h.ensures

pub quartered-l-requires : goal.quartered-l-requires
quartered-l-requires c = omega (arith, few c)

pub overflow_add-l : goal.overflow_add-l
overflow_add-l c = omega (arith, few (goal.at.overflow_add-l c).In_ok-h, ap (λ (l : Spacing). l.fourth) c.quartered-l.ensures)

pub returns-then-l-h : goal.returns-then-l-h
returns-then-l-h c =
    rw c.quartered-l.ensures
    (chains_meet _ c.args.starts 1 64 (omega arith) (omega arith) (record { second = omega arith; third = omega arith; fourth = omega arith }) c.in_ok-e.ensures c.in_ok-f.ensures c.in_ok-g.ensures c.in_ok-h.ensures _ _ _
    (grind (arith, common_steps)) (sym (ap (λ (l : Spacing). l.fourth + c.in_ok-h.h) c.quartered-l.ensures) ∙ c.if-l-h.true) (omega arith))
