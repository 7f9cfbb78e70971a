-- Why a stream of a file is not handed out: twelve kinds of damage, each with its number and the one number that says where.
use Rattle.std.specs.Prelude.{ℕ, Bool, true, false, Result, Ok, Err}
use Rattle.msf.specs.declared.damage.Damage.{Damage}
use Rattle.msf.specs.declared.damage.Damage.TheVariants.{
  Short,
  Magic,
  BlockSize,
  FreeBlockMap,
  Cut,
  DirectorySize,
  BlockMap,
  DirectoryBlock,
  Directory,
  StreamBlock,
  NoStream,
  NoRoom,
}

-- The number of each, in the order in which they are tested.
abbrev pub number_of : Damage → ℕ
number_of (Short len) = 1
number_of (Magic at) = 2
number_of (BlockSize at) = 3
number_of (FreeBlockMap at) = 4
number_of (Cut at) = 5
number_of (DirectorySize at) = 6
number_of (BlockMap at) = 7
number_of (DirectoryBlock at) = 8
number_of (Directory at) = 9
number_of (StreamBlock at) = 10
number_of (NoStream at) = 11
number_of (NoRoom len) = 12

-- The place in the file of the number that is wrong; of the first the file's length, of the last the length that is needed.
abbrev pub place_of : Damage → ℕ
place_of (Short len) = len
place_of (Magic at) = at
place_of (BlockSize at) = at
place_of (FreeBlockMap at) = at
place_of (Cut at) = at
place_of (DirectorySize at) = at
place_of (BlockMap at) = at
place_of (DirectoryBlock at) = at
place_of (Directory at) = at
place_of (StreamBlock at) = at
place_of (NoStream at) = at
place_of (NoRoom len) = len

-- What a check comes to.
abbrev pub Checked : Type 0
Checked = Result (Unit {0}) Damage

-- A test: what holds is good, what does not is the damage.
abbrev pub test : Bool → Damage → Checked
test true d = Ok tt
test false d = Err d

-- The damage at the place where a check failed.
abbrev pub damaged : (ℕ → Damage) → Result (Unit {0}) ℕ → Checked
damaged damage (Ok u) = Ok tt
damaged damage (Err at) = Err (damage at)

-- One step after another: the first damage is the answer.
infixr 5 ◌⨾◌
abbrev pub ◌⨾◌ : {A B : Type 0} → Result A Damage → Result B Damage → Result B Damage
◌⨾◌ (Ok a) next = next
◌⨾◌ (Err d) next = Err d
