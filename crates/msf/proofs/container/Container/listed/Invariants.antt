-- The sum is that of the streams passed, each less than 2^32.
use Rattle.std.proofs.Common.{◌≡◌, ◌≤◌, ◌*◌}
use Rattle.msf.specs.Directory.{listed}
use Rattle.msf.proofs.container.Container.listed.Given as goal

abbrev pub invariant-loop-i : goal.invariant-loop-i
invariant-loop-i l = (l.sum ≤ l.i * 4294967295) × (l.sum ≡ listed l.self.file.now l.self.superblock l.i)
