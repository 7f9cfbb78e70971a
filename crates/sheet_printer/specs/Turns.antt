-- What `print_lines` leaves: a sheet's lines, turn after turn over one buffer.
use Rattle.std.specs.Prelude.{ℕ, zero, suc, ◌+◌, ◌≤◌, ◌&&◌, List, ◌≡◌, ltb, length, drop}
use Rattle.wire.specs.Field.{pick}
use Rattle.sheet.specs.Sheet.{fit}
use Rattle.sheet.specs.Printed.{laid_out}

-- The buffer, and how many lines were printed in all.
pub record Told : Type 0 where
  pub buf : List ℕ
  pub lines : ℕ

abbrev pub told : List ℕ → ℕ → Told
told b n = record { buf = b; lines = n }

-- So many turns at most, the first `skip` lines printed before: a turn prints the lines that fit, and the next one goes on behind them. The last turn is the
-- one that leaves no line, or that has no room for one.
unfoldable pub turns : ℕ → List (List ℕ) → List ℕ → ℕ → Told
turns zero all buf skip = told buf skip
turns (suc n) all buf skip =
    let f = fit (length buf) (drop skip all) in
    pick (f.more && ltb 0 f.lines)
    (turns n all (laid_out buf f).buf (skip + f.lines))
    (told (laid_out buf f).buf (skip + f.lines))

-- All turns: each but the last prints a line at least.
unfoldable pub all_turns : List (List ℕ) → List ℕ → Told
all_turns all buf = turns (suc (length all)) all buf 0

-- So many lines are all that a buffer takes: one more turn prints none, and 4,150 bytes take every line.
pub record AllTold (all : List (List ℕ)) (room n : ℕ) : Type 0 where
  pub over : (fit room (drop n all)).lines ≡ 0
  pub whole : 4150 ≤ room → n ≡ length all

-- The buffer after so many turns: one at least, and no more than all turns are at most.
abbrev pub SomeTurns : List (List ℕ) → List ℕ → List ℕ → Type 0
SomeTurns all buf new = (n : ℕ) × (n ≤ length all) × (new ≡ (turns (suc n) all buf 0).buf)
