-- The places of the directory.
use Rattle.msf.specs.Directory.{place}
use Rattle.msf.proofs.container.Container.check_lists.Given as goal

abbrev pub ghost-check_blocks : goal.ghost-check_blocks
ghost-check_blocks a = place a.self.now.file.now a.self.now.superblock
