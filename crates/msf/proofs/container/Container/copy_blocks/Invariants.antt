-- The buffer up to the place, with the bytes of the blocks that are left, makes all of them; behind the place it is as it was.
use Rattle.std.proofs.Common.{◌≡◌, ◌≤◌, ◌+◌, ◌-◌, ◌++◌, take, drop}
use Rattle.msf.specs.Contents.{bytes_from}
use Rattle.msf.proofs.container.Container.copy_blocks.Given as goal

abbrev pub invariant-loop-j : goal.invariant-loop-j
invariant-loop-j l = record {
  within : l.at ≤ l.size;
  front : take l.at l.out ++ bytes_from l.self.file.now l.self.superblock (l.first + l.count - l.j) l.j (l.size - l.at) ≡ bytes_from l.self.file.now l.self.superblock l.count l.first l.size;
  rest : drop l.at l.out ≡ drop l.at l.initial.out;
}
