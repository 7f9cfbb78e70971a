-- The stream directory: "NumStreams; StreamSizes[NumStreams]; StreamBlocks[NumStreams][]", all numbers of four bytes.
use Rattle.std.specs.Prelude.{ℕ, zero, suc, ◌+◌, ◌*◌, ◌/◌, ◌%◌, not, List, eqb, leb, ltb, Ok}
use Rattle.wire.specs.Field.{pick}
use Rattle.msf.specs.Damage.{Checked, test, ◌⨾◌}
use Rattle.msf.specs.Superblock.{word, blocks_for, inside}
use Rattle.msf.specs.declared.damage.Damage.{Damage}
use Rattle.msf.specs.declared.damage.Damage.TheVariants.{DirectoryBlock, Directory, StreamBlock, NoStream, NoRoom}
use Rattle.msf.specs.declared.superblock.Superblock.{Superblock}

-- Where the k-th number of the block map stands. "BlockMapAddr: The index of a block within the MSF file. At this block is an array of ulittle32_t's
-- listing the blocks that the stream directory resides on."
unfoldable pub map_place : Superblock → ℕ → ℕ
map_place s k = s.map * s.size + 4 * k

-- Where the j-th number of the directory stands: each of its blocks holds a fourth of the block size of them.
unfoldable pub place : List ℕ → Superblock → ℕ → ℕ
place file s j = word file (map_place s (j / (s.size / 4))) * s.size + 4 * (j % (s.size / 4))

unfoldable pub number_at : List ℕ → Superblock → ℕ → ℕ
number_at file s j = word file (place file s j)

-- The directory starts with the number of streams, and the size of each follows.
unfoldable pub streams : List ℕ → Superblock → ℕ
streams file s = number_at file s 0

unfoldable pub size_of : List ℕ → Superblock → ℕ → ℕ
size_of file s i = number_at file s (1 + i)

-- How many blocks are listed for a stream of a size. One of size 0xFFFFFFFF is not there.
unfoldable pub blocks_of : ℕ → ℕ → ℕ
blocks_of size n = pick (eqb n 0xFFFF_FFFF) 0 (blocks_for size n)

-- How many are listed for so many of the first streams.
unfoldable pub listed : List ℕ → Superblock → ℕ → ℕ
listed file s zero = 0
listed file s (suc i) = listed file s i + blocks_of s.size (size_of file s i)

-- Of so many numbers from the j-th on, each at its place, the first that is not that of a block inside is the damage.
unfoldable pub all_inside : List ℕ → Superblock → (ℕ → ℕ) → (ℕ → Damage) → ℕ → ℕ → Checked
all_inside file s at damage zero j = Ok tt
all_inside file s at damage (suc n) j = test (inside s (word file (at j))) (damage (at j)) ⨾ all_inside file s at damage n (j + 1)

-- The blocks of the directory.
unfoldable pub map_checked : List ℕ → Superblock → Checked
map_checked file s = all_inside file s (map_place s) DirectoryBlock (blocks_for s.size s.directory) 0

-- "This structure occupies exactly NumDirectoryBytes bytes."
unfoldable pub filled : List ℕ → Superblock → Checked
filled file s = test (eqb (4 * (1 + streams file s + listed file s (streams file s))) s.directory) (Directory (place file s 0))

-- The blocks of every stream.
unfoldable pub lists_checked : List ℕ → Superblock → Checked
lists_checked file s = all_inside file s (place file s) StreamBlock (listed file s (streams file s)) (1 + streams file s)

-- The stream that is asked for is there, and there is room for it.
unfoldable pub stream_checked : List ℕ → Superblock → ℕ → ℕ → Checked
stream_checked file s number room =
    test (ltb number (streams file s)) (NoStream (place file s 0))
    ⨾ test (not (eqb (size_of file s number) 0xFFFF_FFFF)) (NoStream (place file s (1 + number)))
    ⨾ test (leb (size_of file s number) room) (NoRoom (size_of file s number))

-- The tests of the directory.
unfoldable pub streams_checked : List ℕ → Superblock → ℕ → ℕ → Checked
streams_checked file s number room = lists_checked file s ⨾ stream_checked file s number room

unfoldable pub directory_checked : List ℕ → Superblock → ℕ → ℕ → Checked
directory_checked file s number room = map_checked file s ⨾ filled file s ⨾ streams_checked file s number room
