-- Looking on from here finds the first number that is not inside.
use Rattle.std.proofs.Common.{ℕ, ◌≡◌, ◌-◌}
use Rattle.msf.specs.Directory.{all_inside}
use Rattle.msf.specs.declared.damage.Damage.{Damage}
use Rattle.msf.proofs.container.Container.check_blocks.Given as goal

abbrev pub invariant-loop-j : goal.invariant-loop-j
invariant-loop-j g l = (damage : ℕ → Damage) → all_inside l.self.file.now l.self.superblock g.at damage (l.end - l.first) l.first ≡ all_inside l.self.file.now l.self.superblock g.at damage (l.end - l.j) l.j
