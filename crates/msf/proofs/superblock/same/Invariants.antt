-- Looking on from here finds the first byte that differs from those asked for.
use Rattle.std.proofs.Common.{◌≡◌, drop}
use Rattle.msf.specs.Superblock.{same_from}
use Rattle.msf.proofs.superblock.same.Given as goal

abbrev pub invariant-loop-i : goal.invariant-loop-i
invariant-loop-i l = same_from l.magic l.file 0 ≡ same_from (drop l.i l.magic) l.file l.i
