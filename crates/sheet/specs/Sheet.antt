-- What a sheet prints (document 01, "The program `names`"): the lines of its commands, in order.
use Rattle.std.specs.Prelude.{ℕ, zero, suc, ◌+◌, ◌-◌, Bool, true, false, List, [], ◌∷◌, ◌++◌, leb, length, take, drop}
use Rattle.wire.specs.Field.{pick}
use Rattle.streams.specs.declared.refusal.Refusal.TheVariants.{UnknownCommand}
use Rattle.rules.specs.Call.{Outcome, Size, function_outcome, id_outcome, type_outcome, size_outcome, Report, of_size}
use Rattle.rules.specs.Places.{Near}
use Rattle.checked_calls.specs.Checks.{function_over, id_over, type_over, size_over}
use Rattle.sheet.specs.Command.{command_at, given_name}
use Rattle.sheet.specs.Line.{told_line, refused_line, outcome_line, size_line}
use Rattle.sheet.specs.declared.command.Command.{Command}
use Rattle.sheet.specs.declared.command.Command.TheVariants.{End, Flags, PointerSize, TypeText, TypeSize, IdText, FunctionText, Faulty}
use Rattle.sheet.specs.declared.State.{State}
use Rattle.sheet.specs.declared.Step.{Step}
use Rattle.sheet.specs.declared.Step.TheVariants.{Over, Setting, Last, Line}

-- "Start: flags 0, pointer size 8."
abbrev pub begin : State
begin = record { at = 0; lines = 0; flags = 0; size = 8 }

-- "16 prints its line and ends the run."
unfoldable pub step_of : Command → Step
step_of End = Over
step_of (Flags n) = Setting
step_of (PointerSize n) = Setting
step_of (TypeText i) = Line
step_of (TypeSize i) = Line
step_of (IdText i) = Line
step_of (FunctionText i) = Line
step_of (Faulty b) = Last b

-- A setting holds until the next of its kind; a line counts one more. (Behind the end and behind a faulty command nothing is read.)
abbrev pub behind_of : State → ℕ → State
behind_of s width = record { at = s.at + width; lines = s.lines + 1; flags = s.flags; size = s.size }

unfoldable pub after_of : State → Command → State
after_of s End = behind_of s 5
after_of s (Flags n) = record { at = s.at + 5; lines = s.lines; flags = n; size = s.size }
after_of s (PointerSize n) = record { at = s.at + 2; lines = s.lines; flags = s.flags; size = n }
after_of s (TypeText i) = behind_of s 5
after_of s (TypeSize i) = behind_of s 5
after_of s (IdText i) = behind_of s 5
after_of s (FunctionText i) = behind_of s 21
after_of s (Faulty b) = behind_of s 5

-- The line of what a text call tells, its text at the start of the buffer.
unfoldable pub answer_line : ℕ → List ℕ → Report → List ℕ
answer_line n buf t = told_line n t (take t.value buf)

-- What a step makes of its line and of the lines behind it.
abbrev pub by_step : Step → List ℕ → List (List ℕ) → List (List ℕ)
by_step Over l ls = []
by_step Setting l ls = ls
by_step (Last b) l ls = l ∷ []
by_step Line l ls = l ∷ ls

-- The answers that lines are made of: of the text calls by flags, pointer size, (name,) index, in a text buffer of 4,096 bytes; of the size call by pointer
-- size and index.
pub record Calls : Type 0 where
  pub function : ℕ → ℕ → List ℕ → ℕ → Outcome
  pub id : ℕ → ℕ → ℕ → Outcome
  pub type_text : ℕ → ℕ → ℕ → Outcome
  pub type_size : ℕ → ℕ → Size

-- Those of the four calls to two streams; and those of the calls over what was kept of a check, whatever that is.
abbrev pub calls_to : List ℕ → List ℕ → Calls
calls_to types ids =
    record {
      function = λ flags size name i. function_outcome flags size types name i 4096;
      id = λ flags size i. id_outcome flags size types ids i 4096;
      type_text = λ flags size i. type_outcome flags size types i 4096;
      type_size = λ size i. size_outcome size types i;
    }

abbrev pub calls_over : List ℕ → List ℕ → Near → Calls
calls_over types ids v =
    record {
      function = λ flags size name i. function_over types v flags size name i 4096;
      id = λ flags size i. id_over types ids v flags size i 4096;
      type_text = λ flags size i. type_over types v flags size i 4096;
      type_size = λ size i. size_over types v size i;
    }

-- The line of a function command, whose name stands in the sheet.
abbrev pub function_line : Calls → List ℕ → State → ℕ → List ℕ
function_line k sheet s i = outcome_line (s.lines + 1) (k.function s.flags s.size (given_name sheet (s.at + 5)) i)

-- As many whole lines as fit: their bytes, how many they are, and whether lines are left.
pub record Fit : Type 0 where
  pub bytes : List ℕ
  pub lines : ℕ
  pub more : Bool

abbrev pub ahead : List ℕ → ℕ → Fit → Fit
ahead bs n f = record { bytes = bs ++ f.bytes; lines = n + f.lines; more = f.more }

unfoldable pub fit : ℕ → List (List ℕ) → Fit
fit room [] = record { bytes = []; lines = 0; more = false }
fit room (l ∷ ls) =
    pick (leb (length l) room) (ahead l 1 (fit (room - length l) ls)) (record { bytes = []; lines = 0; more = true })

module _ (k : Calls) (sheet : List ℕ) where
  -- The line of a command.
  unfoldable pub line_of : State → Command → List ℕ
  line_of s End = []
  line_of s (Flags n) = []
  line_of s (PointerSize n) = []
  line_of s (TypeText i) = outcome_line (s.lines + 1) (k.type_text s.flags s.size i)
  line_of s (TypeSize i) = size_line (s.lines + 1) (of_size (k.type_size s.size i))
  line_of s (IdText i) = outcome_line (s.lines + 1) (k.id s.flags s.size i)
  line_of s (FunctionText i) = function_line k sheet s i
  line_of s (Faulty b) = refused_line (s.lines + 1) (UnknownCommand b)

  -- The lines from a state on, so many commands long at most.
  unfoldable pub lines_from : ℕ → State → List (List ℕ)
  lines_from zero s = []
  lines_from (suc n) s =
      let c = command_at sheet s.at in
      by_step (step_of c) (line_of s c) (lines_from n (after_of s c))

  -- All lines of the sheet: each command has a byte at least.
  unfoldable pub lines_by : List (List ℕ)
  lines_by = lines_from (length sheet) begin

-- The lines of a sheet over two streams, and over what was kept of a check of them.
abbrev pub sheet_lines : List ℕ → List ℕ → List ℕ → List (List ℕ)
sheet_lines types ids sheet = lines_by (calls_to types ids) sheet

abbrev pub lines_over : List ℕ → List ℕ → Near → List ℕ → List (List ℕ)
lines_over types ids v sheet = lines_by (calls_over types ids v) sheet

-- What is printed of them behind the first `skip`, in so much room.
abbrev pub sheet_fit : List ℕ → List ℕ → List ℕ → ℕ → ℕ → Fit
sheet_fit types ids sheet skip room = fit room (drop skip (sheet_lines types ids sheet))

abbrev pub fit_over : List ℕ → List ℕ → Near → List ℕ → ℕ → ℕ → Fit
fit_over types ids v sheet skip room = fit room (drop skip (lines_over types ids v sheet))
