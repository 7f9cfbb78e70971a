-- What the values that are passed down stand for: settings, open keys, pointer levels, array levels.
use Rattle.std.specs.Prelude.{ℕ, ◌+◌, ◌-◌, ◌/◌, ◌%◌, ◌≡◌, Bool, true, false, not, ◌||◌, List, [], ◌∷◌, map, drop, get_or, replicate, set, eqb, ltb, Result, Ok, Err}
use Rattle.std.specs.Int.Bits.{bit_and}
use Rattle.wire.specs.Field.{pick}
use Rattle.streams.specs.declared.refusal.Refusal.{Refusal}
use Rattle.streams.specs.declared.refusal.Refusal.TheVariants.{UnknownFlags}
use Rattle.codeview.specs.declared.record.PointerMode.{PointerMode}
use Rattle.codeview.specs.declared.record.PointerMode.TheVariants as mode
use Rattle.interpreter.specs.Trace.{Key, key, Held, held}
use Rattle.rules.specs.Flags.{Settings, settings}
use Rattle.rules.specs.Text.{Level, level}
use Rattle.context.specs.declared.flags.TypeFormatterFlags.{TypeFormatterFlags}
use Rattle.context.specs.declared.flags.Call.{Call}
use Rattle.context.specs.declared.levels.PtrAttributes.{PtrAttributes}
use Rattle.context.specs.declared.levels.Levels.{Levels}
use Rattle.context.specs.declared.levels.Dimensions.{Dimensions}

-- The flags of a number, or refusal 1.
unfoldable pub known : ℕ → Result TypeFormatterFlags Refusal
known bits = pick (ltb bits 64) (Ok (record { 0 = bits })) (Err (UnknownFlags bits))

-- Whether two sums of flags have a bit in common, as the Rust has it: `self.bits & other.bits != 0`.
unfoldable pub intersects : ℕ → ℕ → Bool
intersects bits other = not (eqb (bit_and bits other) 0)

-- The settings that a call's writers go by.
unfoldable pub settings_of : Call → Settings
settings_of c = settings c.flags.0 c.size

-- An open key, packed in one number: the way above the 32 bits of the index.
abbrev pub key_of : ℕ → Key
key_of x = key (x / 4_294_967_296) (x % 4_294_967_296)

-- The open keys, the newest first.
unfoldable pub keys_of : List ℕ → List Key
keys_of seen = map key_of seen

unfoldable pub has_index : ℕ → List Key → Bool
has_index i [] = false
has_index i (k ∷ o) = eqb k.index i || has_index i o

-- What is held while a writer runs.
unfoldable pub holding : Call → List ℕ → Held
holding c seen = held c.chain (keys_of seen)

-- The pointer levels, the innermost first.
abbrev pub level_of : PtrAttributes → Level
level_of l = level l.constant l.pointee l.mode

-- A level in one byte: bit 0 is its const, bit 1 the const of what is pointed to, and above them is the mode.
unfoldable pub flags_byte : Bool → Bool → ℕ
flags_byte false false = 0
flags_byte true false = 1
flags_byte false true = 2
flags_byte true true = 3

unfoldable pub mode_byte : PointerMode → ℕ
mode_byte mode.Pointer = 0
mode_byte mode.LValueReference = 4
mode_byte mode.Member = 8
mode_byte mode.MemberFunction = 12
mode_byte mode.RValueReference = 16

-- The byte of a level.
abbrev pub level_byte : Bool → Bool → PointerMode → ℕ
level_byte constant pointee mode = flags_byte constant pointee + mode_byte mode

-- And the level of a byte.
unfoldable pub mode_at : ℕ → PointerMode
mode_at n =
    pick (eqb n 0) mode.Pointer
    (pick (eqb n 1) mode.LValueReference
    (pick (eqb n 2) mode.Member
    (pick (eqb n 3) mode.MemberFunction mode.RValueReference)))

unfoldable pub level_at : ℕ → Level
level_at b = level (eqb (b % 2) 1) (eqb (b / 2 % 2) 1) (mode_at (b / 4))

-- The levels lie from `left` to the end of their array, the innermost first.
unfoldable pub levels_of : Levels → List Level
levels_of o = map level_at (drop o.left o.items)

-- No level: an array of zeros that has nothing behind `left`.
unfoldable pub no_levels : Levels
no_levels = record { items = replicate 96 0; left = 96 }

-- One level more: its byte is set right below the others, and the rest of the array stays.
unfoldable pub pushed_level : Levels → PtrAttributes → Levels
pushed_level o l = record { items = set o.items (o.left - 1) (level_byte l.constant l.pointee l.mode); left = o.left - 1 }

-- The innermost level, if there is one, with this const of what it points to.
unfoldable pub over_levels : Levels → Bool → Levels
over_levels o constant =
    pick (ltb o.left 96)
    (let l = level_at (get_or o.items o.left 0) in
    record { items = set o.items o.left (level_byte l.constant constant l.mode); left = o.left })
    o

-- What a function that gives levels says: which value they are, the whole of it; and what follows, where they begin and what they stand for.
pub record AreLevels (r whole : Levels) (begin : ℕ) (list : List Level) : Type 0 where
  pub is : r ≡ whole
  pub left : r.left ≡ begin
  pub levels : levels_of r ≡ list

-- The byte sizes of an array's levels lie in the same way, the innermost first.
unfoldable pub sizes_of : Dimensions → List ℕ
sizes_of o = drop o.left o.items

-- No level of an array.
unfoldable pub no_dimensions : Dimensions
no_dimensions = record { items = replicate 32 0; left = 32 }

-- One level of an array more, with these bytes.
unfoldable pub pushed_dimension : Dimensions → ℕ → Dimensions
pushed_dimension o bytes = record { items = set o.items (o.left - 1) bytes; left = o.left - 1 }
