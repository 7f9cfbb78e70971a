-- The places of the block map.
use Rattle.msf.specs.Directory.{map_place}
use Rattle.msf.proofs.container.Container.check_map.Given as goal

abbrev pub ghost-check_blocks : goal.ghost-check_blocks
ghost-check_blocks a = map_place a.self.now.superblock
