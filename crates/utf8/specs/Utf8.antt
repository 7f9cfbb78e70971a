-- Well-formed UTF-8, and what is shown of bytes that are not (document 02, Note 2; the Unicode Standard, chapter 3: table 3-7, and "U+FFFD substitution of
-- maximal subparts").
use Rattle.std.specs.Prelude.{ℕ, zero, suc, ◌≡◌, Bool, true, false, ◌&&◌, List, [], ◌∷◌, ◌++◌, Option, Some, None, eqb, leb, length, take}
use Rattle.wire.specs.Field.{pick}
use Rattle.utf8.specs.declared.Range.{Range}

-- A range of bytes, both ends in it.
infix 90 ◌‥◌
abbrev pub ◌‥◌ : ℕ → ℕ → Range
low ‥ high = record { low = low; high = high }

unfoldable pub is_in : Range → ℕ → Bool
is_in r b = leb r.low b && leb b r.high

-- A row of the table: the range of the first byte, and those of the bytes behind it.
pub record Row : Type 0 where
  pub first : Range
  pub behind : List Range

abbrev row : Range → List Range → Row
row first behind = record { first = first; behind = behind }

-- Table 3-7, "Well-Formed UTF-8 Byte Sequences".
unfoldable pub table : List Row
table =
    row (0x00 ‥ 0x7F) [] ∷
    row (0xC2 ‥ 0xDF) (0x80 ‥ 0xBF ∷ []) ∷
    row (0xE0 ‥ 0xE0) (0xA0 ‥ 0xBF ∷ 0x80 ‥ 0xBF ∷ []) ∷
    row (0xE1 ‥ 0xEC) (0x80 ‥ 0xBF ∷ 0x80 ‥ 0xBF ∷ []) ∷
    row (0xED ‥ 0xED) (0x80 ‥ 0x9F ∷ 0x80 ‥ 0xBF ∷ []) ∷
    row (0xEE ‥ 0xEF) (0x80 ‥ 0xBF ∷ 0x80 ‥ 0xBF ∷ []) ∷
    row (0xF0 ‥ 0xF0) (0x90 ‥ 0xBF ∷ 0x80 ‥ 0xBF ∷ 0x80 ‥ 0xBF ∷ []) ∷
    row (0xF1 ‥ 0xF3) (0x80 ‥ 0xBF ∷ 0x80 ‥ 0xBF ∷ 0x80 ‥ 0xBF ∷ []) ∷
    row (0xF4 ‥ 0xF4) (0x80 ‥ 0x8F ∷ 0x80 ‥ 0xBF ∷ 0x80 ‥ 0xBF ∷ []) ∷
    []

-- What may stand behind a first byte, by its row; none for a byte that begins no sequence.
unfoldable pub behind_in : List Row → ℕ → Option (List Range)
behind_in [] b = None
behind_in (r ∷ rs) b = pick (is_in r.first b) (Some r.behind) (behind_in rs b)

unfoldable pub behind : ℕ → Option (List Range)
behind b = behind_in table b

-- Bytes that stand each in its range, with none left over of either.
unfoldable pub each : List Range → List ℕ → Bool
each [] [] = true
each [] (b ∷ bs) = false
each (r ∷ rs) [] = false
each (r ∷ rs) (b ∷ bs) = is_in r b && each rs bs

-- A well-formed sequence is one of the table; well-formed bytes are such sequences, one after another.
pub data Sequence : List ℕ → Type 0 where
  sequence : {b : ℕ} {bs : List ℕ} (rs : List Range) → behind b ≡ Some rs → each rs bs ≡ true → Sequence (b ∷ bs)

pub data WellFormed : List ℕ → Type 0 where
  empty : WellFormed []
  further : {q s t : List ℕ} → Sequence q → WellFormed s → t ≡ q ++ s → WellFormed t

-- How many bytes, one after another, stand each in its range.
unfoldable pub fitting : List Range → List ℕ → ℕ
fitting [] s = 0
fitting (r ∷ rs) [] = 0
fitting (r ∷ rs) (b ∷ bs) = pick (is_in r b) (suc (fitting rs bs)) 0

-- The part that a first byte begins, by what may stand behind that byte and by the bytes that do. Whether it is a well-formed sequence; and how many bytes
-- behind the first are in it. One that is none is a maximal subpart: the longest beginning of a well-formed sequence, or the one byte that begins none.
unfoldable pub is_whole : Option (List Range) → List ℕ → Bool
is_whole None bs = false
is_whole (Some rs) bs = eqb (fitting rs bs) (length rs)

unfoldable pub reach : Option (List Range) → List ℕ → ℕ
reach None bs = 0
reach (Some rs) bs = fitting rs bs

-- "The bytes EF BF BD": U+FFFD.
abbrev pub replacement : List ℕ
replacement = 0xEF ∷ 0xBF ∷ 0xBD ∷ []

-- A part as it is shown: a well-formed sequence as it is, "each maximal ill-formed part replaced".
unfoldable pub shown_part : ℕ → List ℕ → List ℕ
shown_part b bs = pick (is_whole (behind b) bs) (b ∷ take (reach (behind b) bs) bs) replacement

-- Bytes as they are shown, part by part; the first n of them are of a part that was shown before.
unfoldable pub shown_past : ℕ → List ℕ → List ℕ
shown_past n [] = []
shown_past zero (b ∷ bs) = shown_part b bs ++ shown_past (reach (behind b) bs) bs
shown_past (suc n) (b ∷ bs) = shown_past n bs

unfoldable pub shown : List ℕ → List ℕ
shown s = shown_past 0 s
