-- What a container keeps, and what inner functions ask of their callers. `read_stream` asks nothing, so that nobody needs to believe these.
use Rattle.std.specs.Prelude.{ℕ, ◌+◌, ◌*◌, ◌/◌, ◌≤◌, ◌<◌, true, List, ◌≡◌, length}
use Rattle.msf.specs.Superblock.{inside}
use Rattle.msf.specs.Directory.{number_at}
use Rattle.msf.specs.declared.superblock.Superblock.{Superblock}

-- What the tests of a superblock leave of its numbers, so that sums stay small and blocks lie in the file.
pub record Sound (file : List ℕ) (s : Superblock) : Type 0 where
  pub least : 512 ≤ s.size
  pub most : s.size ≤ 32768
  pub numbers : 4 * (s.size / 4) ≡ s.size
  pub within : s.blocks * s.size ≤ length file
  pub whole : 4 * (s.directory / 4) ≡ s.directory

-- So many numbers of the directory from one on are those of blocks inside.
pub record Listed (file : List ℕ) (s : Superblock) (first count : ℕ) : Type 0 where
  pub each : (k : ℕ) → first ≤ k → k < first + count → inside s (number_at file s k) ≡ true
