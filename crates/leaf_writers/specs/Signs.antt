-- What the writers here write, where the rules have no name for it.
use Rattle.std.specs.Prelude.{ℕ, ◌-◌, Bool, ◌||◌, ◌&&◌, not, List, [], ◌++◌, get_or, ltb}
use Rattle.wire.specs.Field.{pick}
use Rattle.wire.specs.Text.{bytes}
use Rattle.codeview.specs.declared.record.ClassKind.{ClassKind}
use Rattle.codeview.specs.declared.record.ClassKind.TheVariants as kind
use Rattle.rules.specs.Flags.{Settings}
use Rattle.rules.specs.Text.{Level, sign}

-- A name behind a word, or alone: `worded`, the word given by its bytes.
unfoldable pub behind_word : Settings → List ℕ → List ℕ → List ℕ
behind_word c word name = pick c.name_only name (word ++ (bytes " " ++ name))

-- The word for a kind of class and a space; nothing where names stand alone.
unfoldable pub class_word : Settings → ClassKind → List ℕ
class_word c kind.Class = pick c.name_only [] (bytes "class ")
class_word c kind.Struct = pick c.name_only [] (bytes "struct ")
class_word c kind.Interface = pick c.name_only [] (bytes "interface ")

-- The parts of a pointer level: the const of what is pointed to, whether a space stands before the sign, and all of it.
unfoldable pub const_text : Bool → Bool → List ℕ
const_text constant free = pick constant (pick free (bytes " const") (bytes "const")) []

unfoldable pub spaced : Bool → Bool → Bool → Bool → Bool
spaced space free signed pointee = space && (not (signed && not pointee) && (free || pointee))

unfoldable pub level_text : Settings → Bool → Bool → Level → List ℕ
level_text c free signed l =
    const_text l.pointee free
    ++ (pick (spaced c.space_pointer free signed l.pointee) (bytes " ") []
    ++ (sign l.mode
    ++ pick l.constant (bytes " const") []))

-- The byte size of what a level of an array is made of: that of the level below it, or below the lowest the size that is given.
unfoldable pub inside : List ℕ → ℕ → ℕ → ℕ → ℕ
inside items left size at = pick (ltb left at) (get_or items (at - 1) 0) size
