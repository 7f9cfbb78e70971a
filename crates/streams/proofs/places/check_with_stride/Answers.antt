-- A broken header; else a walk that comes to the stop, or elsewhere, or past the end.
use Rattle.std.proofs.Common.{refl, sym, ◌∙◌, arith}
use lib.ListN.{length-take}
use Rattle.streams.proofs.Walk.{headed_fits}
use Rattle.streams.proofs.Noted.{noted_headless, noted_past, noted_off, noted_end}
use Rattle.streams.proofs.places.check_with_stride.Goals.{in-Some-behind_noting, in_default-behind_noting-2, in_default-behind_noting}
use Rattle.streams.proofs.places.check_with_stride.Goals as goal

pub returns-in_default : goal.returns-in_default
returns-in_default c = noted_headless _ _ _ _ _ _ (sym c.header_of.ensures ∙ c.in_default.is) c.without_header.ensures refl

pub behind_noting-requires : goal.behind_noting-requires
behind_noting-requires c =
    let f = headed_fits _ _ (sym c.header_of.ensures ∙ c.in-Some.is) in
    (rw c.records_of.ensures (omega (arith, f.small, length-take c.in-Some.stream.stop c.args.s.now)), omega arith, c.stride_or-step.ensures)

pub returns : goal.returns
returns c =
    let h = sym c.header_of.ensures ∙ c.in-Some.is in
    let w = rw c.records_of.ensures at c.behind_noting.ensures in
    rw c.strided_by-2.ensures
    (elim c.match-behind_noting.branch [
      | in-Some-behind_noting b ↦ rw b.check-is (noted_end _ _ _ _ _ h _ _ _ w _ b.in-Some-behind_noting.is b.if-at-stream.true)
      | in_default-behind_noting-2 b ↦ rw b.check-is (noted_off _ _ _ _ _ h _ _ _ w _ b.in-Some-behind_noting.is b.if-at-stream.false)
      | in_default-behind_noting b ↦ rw b.check-is (noted_past _ _ _ _ _ h _ _ _ w b.in_default-behind_noting.is)
    ])
