use Rattle.std.proofs.Common.{sym, ◌∙◌, arith}
use Rattle.std.proofs.lemmas.List.{set-get_or}
use Rattle.streams.proofs.Noting.{noting_start, noting_done, noting_next, noting_beyond}
use Rattle.streams.proofs.places.behind_noting.Goals as goal

pub loop-place-init : goal.loop-place-init
loop-place-init c = noting_start _ _ _ _ _ (omega arith)

pub returns-then-left-eq0 : goal.returns-then-left-eq0
returns-then-left-eq0 c = rw set-get_or (noting_done _ _ _ _ _ _ _ _ _ c.loop-place.invariant (omega arith))

pub returns-in_err-at : goal.returns-in_err-at
returns-in_err-at c = rw c.from_residual.ensures (noting_beyond _ _ _ _ _ _ _ _ _ c.loop-place.invariant (omega arith) (omega arith) _ c.min-part.ensures (sym c.behind_records.ensures ∙ c.in_err-at.was))

pub loop-place-preserved : goal.loop-place-preserved
loop-place-preserved c = noting_next _ _ _ _ _ _ _ _ _ c.loop-place.invariant (omega arith) (omega arith) _ _ c.min-part.ensures (omega arith) (sym c.behind_records.ensures ∙ c.in_ok-at.was)
