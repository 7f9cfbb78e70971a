use Prim.Native.Nat.{ℕ, ◌<◌}
use Rattle.std.proofs.Common.{arith, rules}
use Rattle.std.proofs.iter.Serving.{serving}
use Rattle.msf.proofs.container.Container.check_map.Goals as goal

pub check_blocks-requires : goal.check_blocks-requires
check_blocks-requires c κs within = let h : (k : ℕ) → k < c.blocks_for-count.result → k < 1152921504606846976 = λ k p. omega arith in search (rules, serving, h)
