-- What `print_sheet` leaves: the buffer and the counts.
use Rattle.std.specs.Prelude.{ℕ, ◌+◌, ◌-◌, ◌≤◌, ◌<◌, Bool, true, false, List, [], ◌∷◌, ◌++◌, ◌≡◌, leb, ltb, length, take, drop, Option, Some, None}
use Rattle.wire.specs.Field.{pick}
use Rattle.rules.specs.Places.{Near}
use Rattle.sheet.specs.Sheet.{Fit, sheet_lines, sheet_fit, lines_over, fit_over}
use Rattle.sheet.specs.declared.Printed.{Printed}
use Rattle.sheet.specs.declared.State.{State}

-- A buffer with how many bytes of it are printed; none, where there was no room for a line.
pub record Placed : Type 0 where
  pub buf : List ℕ
  pub at : Option ℕ

abbrev pub placed : List ℕ → Option ℕ → Placed
placed buf at = record { buf = buf; at = at }

-- A line is left out where it was printed before, and where there is no room for the whole of it.
unfoldable pub put_of : List ℕ → ℕ → Bool → List ℕ → Placed
put_of buf at before l =
    pick before (placed buf (Some at))
    (pick (leb (length l) (length buf - at)) (placed (take at buf ++ (l ++ drop (at + length l) buf)) (Some (at + length l))) (placed buf None))

-- The buffer at exit with the counts, and what they are of the lines that fit.
pub record Shown : Type 0 where
  pub buf : List ℕ
  pub bytes : ℕ
  pub lines : ℕ
  pub more : Bool

abbrev pub shown : List ℕ → Printed → Shown
shown b r = record { buf = b; bytes = r.bytes; lines = r.lines; more = r.more }

unfoldable pub laid_out : List ℕ → Fit → Shown
laid_out buf f = record { buf = f.bytes ++ drop (length f.bytes) buf; bytes = length f.bytes; lines = f.lines; more = f.more }

-- The bytes of lines, one after another.
unfoldable pub joined : List (List ℕ) → List ℕ
joined [] = []
joined (l ∷ ls) = l ++ joined ls

-- Nothing is lost: what fits, and the lines behind it, are all that was asked for. A call that skips the printed lines too goes on there. There is
-- something for it to print exactly where lines are said to be left, and a buffer of 4,150 bytes takes one line at least.
pub record Continues (all : List (List ℕ)) (skip room : ℕ) (f : Fit) : Type 0 where
  pub kept : joined (drop skip all) ≡ f.bytes ++ joined (drop (skip + f.lines) all)
  pub over : f.more ≡ false → drop (skip + f.lines) all ≡ []
  pub left : f.more ≡ true → skip + f.lines < length all
  pub some : f.more ≡ true → 4150 ≤ room → 0 < f.lines

-- Nothing is lost of a sheet's lines behind the first `skip`, in so much room.
abbrev pub SheetContinues : List ℕ → List ℕ → List ℕ → ℕ → ℕ → Type 0
SheetContinues types ids sheet skip room = Continues (sheet_lines types ids sheet) skip room (sheet_fit types ids sheet skip room)

abbrev pub ContinuesOver : List ℕ → List ℕ → Near → List ℕ → ℕ → ℕ → Type 0
ContinuesOver types ids v sheet skip room = Continues (lines_over types ids v sheet) skip room (fit_over types ids v sheet skip room)

-- A state whose place and lines are far below 2^64, so that they can be counted further.
abbrev pub Countable : State → Type 0
Countable s = (s.at < 9223372036854775808) × (s.lines < 9223372036854775808)
