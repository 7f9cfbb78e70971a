-- What a stream holds, and what `read_stream` leaves.
use Rattle.std.specs.Prelude.{ℕ, zero, suc, ◌+◌, ◌-◌, ◌*◌, min, List, [], ◌++◌, length, take, drop, replicate, Result, Ok, Err}
use Rattle.msf.specs.Damage.{Checked, ◌⨾◌}
use Rattle.msf.specs.Superblock.{superblock_of, superblock_checked, blocks_for}
use Rattle.msf.specs.Directory.{number_at, streams, size_of, listed, directory_checked}
use Rattle.msf.specs.declared.damage.Damage.{Damage}
use Rattle.msf.specs.declared.superblock.Superblock.{Superblock}

-- The bytes of so many blocks, which are listed from the j-th number of the directory on: whole ones, and the last as far as what is left goes.
unfoldable pub bytes_from : List ℕ → Superblock → ℕ → ℕ → ℕ → List ℕ
bytes_from file s zero j left = []
bytes_from file s (suc n) j left =
    take (min s.size left) (drop (number_at file s j * s.size) file) ++ bytes_from file s n (j + 1) (left - s.size)

-- The bytes of a stream. Its blocks are listed behind those of the streams before it.
unfoldable pub stream_bytes : List ℕ → Superblock → ℕ → List ℕ
stream_bytes file s number =
    bytes_from file s (blocks_for s.size (size_of file s number)) (1 + streams file s + listed file s number) (size_of file s number)

-- Every test, for a stream and the room that there is for it.
unfoldable pub checked : List ℕ → Superblock → ℕ → ℕ → Checked
checked file s number room = superblock_checked file s ⨾ directory_checked file s number room

-- What comes of asking for a stream: its bytes, or the first damage.
unfoldable pub stream_of : List ℕ → ℕ → ℕ → Result (List ℕ) Damage
stream_of file number room = checked file (superblock_of file) number room ⨾ Ok (stream_bytes file (superblock_of file) number)

-- Bytes in front of a buffer, whose rest is as it was.
abbrev pub in_front : List ℕ → List ℕ → List ℕ
in_front l buf = l ++ drop (length l) buf

-- The buffer with the answer: the bytes in front, or zeros.
pub record Given : Type 0 where
  pub buf : List ℕ
  pub told : Result ℕ Damage

abbrev pub given : List ℕ → Result ℕ Damage → Given
given b r = record { buf = b; told = r }

unfoldable pub laid : List ℕ → Result (List ℕ) Damage → Given
laid buf (Ok l) = given (in_front l buf) (Ok (length l))
laid buf (Err d) = given (replicate (length buf) 0) (Err d)
