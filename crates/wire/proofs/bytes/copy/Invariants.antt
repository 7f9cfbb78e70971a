-- The invariant: the first i bytes are those of s.
use Rattle.std.proofs.Common.{◌≡◌, length, take}
use Rattle.wire.proofs.bytes.copy.Given as goal

abbrev pub invariant-loop-i : goal.invariant-loop-i
invariant-loop-i l = (length l.to ≡ length l.s) × (take l.i l.to ≡ take l.i l.s)
