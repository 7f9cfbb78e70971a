-- Little-endian fields of a list of bytes (document 01: "fields are little-endian").
use Rattle.std.specs.Prelude.{ℕ, zero, suc, ◌+◌, ◌*◌, Bool, true, false, List, length, get_or, leb, Option, Some, None}

-- One of two answers, by a test.
abbrev pub pick : {A : Type 0} → Bool → A → A → A
pick true a b = a
pick false a b = b

-- The number that so many bytes at a place make, the least significant byte first.
unfoldable pub number : ℕ → List ℕ → ℕ → ℕ
number zero s at = 0
number (suc width) s at = get_or s at 0 + 256 * number width s (at + 1)

-- What follows from a field of a width at a place: its number handed on where the whole field lies inside, else what is said of a field outside.
unfoldable pub field : {A : Type 0} → ℕ → List ℕ → ℕ → (ℕ → A) → A → A
field width s at inside outside = pick (leb (at + width) (length s)) (inside (number width s at)) outside

-- The field of a width, as the code answers it.
abbrev pub field_answer : ℕ → List ℕ → ℕ → Option ℕ
field_answer width s at = field width s at Some None
