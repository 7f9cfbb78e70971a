-- The superblock (LLVM, "The MSF File Format"): "At file offset 0 in an MSF file is the MSF SuperBlock".
use Rattle.std.specs.Prelude.{ℕ, ◌+◌, ◌-◌, ◌*◌, ◌/◌, ◌%◌, Bool, ◌&&◌, ◌||◌, List, [], ◌∷◌, ◌++◌, eqb, leb, ltb, length, get_or, Ok}
use Rattle.wire.specs.Field.{field}
use Rattle.wire.specs.Text.{bytes}
use Rattle.msf.specs.Damage.{Checked, test, ◌⨾◌}
use Rattle.msf.specs.declared.damage.Damage.TheVariants.{Short, Magic, BlockSize, FreeBlockMap, Cut, DirectorySize, BlockMap}
use Rattle.msf.specs.declared.superblock.Superblock.{Superblock}

-- The number of four bytes at a place, little-endian; 0 where no four bytes stand.
unfoldable pub word : List ℕ → ℕ → ℕ
word file at = field 4 file at (λ n. n) 0

-- "FileMagic: Must be equal to "Microsoft C / C++ MSF 7.00\r\n" followed by the bytes 1A 44 53 00 00 00." (Files have no space
-- beside the stroke.)
abbrev pub file_magic : List ℕ
file_magic = bytes "Microsoft C/C++ MSF 7.00" ++ (0x0D ∷ 0x0A ∷ 0x1A ∷ 0x44 ∷ 0x53 ∷ 0 ∷ 0 ∷ 0 ∷ [])

-- The bytes from a place on are those of a list; the first that differs is the damage.
unfoldable pub same_from : List ℕ → List ℕ → ℕ → Checked
same_from [] file at = Ok tt
same_from (b ∷ bs) file at = test (eqb (get_or file at 0) b) (Magic at) ⨾ same_from bs file (at + 1)

-- The numbers behind the magic; the one at 48 is not known.
unfoldable pub superblock_of : List ℕ → Superblock
superblock_of file =
    record { size = word file 32; free = word file 36; blocks = word file 40; directory = word file 44; map = word file 52 }

-- "BlockSize: The block size of the internal file system. Valid values are 512, 1024, 2048, and 4096 bytes." LLVM's reader takes the three others too, which
-- larger files have.
unfoldable pub is_block_size : ℕ → Bool
is_block_size n = eqb n 512 || eqb n 1024 || eqb n 2048 || eqb n 4096 || eqb n 8192 || eqb n 16384 || eqb n 32768

-- "FreeBlockMapBlock: ... This can only be 1 or 2."
unfoldable pub is_free_map : ℕ → Bool
is_free_map n = eqb n 1 || eqb n 2

-- How many blocks so many bytes take: "ceil(NumDirectoryBytes / BlockSize)", and the same of a stream.
unfoldable pub blocks_for : ℕ → ℕ → ℕ
blocks_for size n = (n + (size - 1)) / size

-- "NumDirectoryBytes: The size of the stream directory, in bytes." It is made of numbers of four bytes, and the list of its blocks is one block.
unfoldable pub is_directory_size : ℕ → ℕ → Bool
is_directory_size size n = eqb (n % 4) 0 && ltb 0 n && leb (4 * blocks_for size n) size

-- A block of the file that may be named: block 0 is the superblock's.
unfoldable pub inside : Superblock → ℕ → Bool
inside s n = ltb 0 n && ltb n s.blocks

-- The tests of these numbers. "NumBlocks: The total number of blocks in the file. NumBlocks * BlockSize should equal the size of the file on disk": a
-- longer file has lost nothing.
unfoldable pub numbers_checked : List ℕ → Superblock → Checked
numbers_checked file s =
    test (is_block_size s.size) (BlockSize 32)
    ⨾ test (is_free_map s.free) (FreeBlockMap 36)
    ⨾ test (leb (s.blocks * s.size) (length file)) (Cut 40)
    ⨾ test (is_directory_size s.size s.directory) (DirectorySize 44)
    ⨾ test (inside s s.map) (BlockMap 52)

-- The tests of the superblock.
unfoldable pub superblock_checked : List ℕ → Superblock → Checked
superblock_checked file s = test (leb 56 (length file)) (Short (length file)) ⨾ same_from file_magic file 0 ⨾ numbers_checked file s
