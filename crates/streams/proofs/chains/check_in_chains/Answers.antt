-- The chains that meet say it.
use Rattle.std.proofs.Common.{sym, ◌∙◌, arith}
use lib.ListN.{length-take}
use Rattle.streams.proofs.Walk.{headed_fits}
use Rattle.streams.proofs.Noted.{noted_good}
use Rattle.streams.proofs.chains.check_in_chains.Goals as goal

pub chains_for-requires : goal.chains_for-requires
chains_for-requires c =
    let f = headed_fits _ _ (sym c.header_of.ensures ∙ c.in_ok-stream.was) in
    rw c.records_of.ensures (omega (arith, f.small, length-take c.in_ok-stream.stream.stop c.args.s.now))

pub returns : goal.returns
returns c =
    let w = rw c.records_of.ensures at c.in_ok-spacing.ensures in
    (c.chains_for.ensures.sized, noted_good _ _ _ _ _ (sym c.header_of.ensures ∙ c.in_ok-stream.was) _ w.sized w.tiles w.right)
