-- The printed lines (document 01, "The program `names`"): "running number from 1, refusal or 0, detail in hex, then text or decimal size if accepted; one
-- space stands between fields, an empty text leaving the space before it".
use Rattle.std.specs.Prelude.{ℕ, List, [], ◌++◌, eqb, length}
use Rattle.wire.specs.Field.{pick}
use Rattle.wire.specs.Text.{bytes}
use Rattle.streams.specs.declared.refusal.Refusal.{Refusal}
use Rattle.rules.specs.Text.{decimal, hex}
use Rattle.rules.specs.Call.{Outcome, Report, refused_by, accepted, of_text}
use Rattle.checked_calls.specs.Answers.{text_of}

-- The fields before a text.
unfoldable pub head : ℕ → ℕ → ℕ → List ℕ
head n refusal detail = decimal n ++ (bytes " " ++ (decimal refusal ++ (bytes " 0x" ++ hex detail)))

-- The line of what a call tells, with the text or the decimal size. A line ends in a line feed.
unfoldable pub told_line : ℕ → Report → List ℕ → List ℕ
told_line n t bs = head n t.number t.detail ++ pick (eqb t.number 0) (bytes " " ++ (bs ++ bytes "\n")) (bytes "\n")

-- The line of a refusal and that of a text.
unfoldable pub refused_line : ℕ → Refusal → List ℕ
refused_line n f = told_line n (refused_by f) []

unfoldable pub text_line : ℕ → List ℕ → List ℕ
text_line n bs = told_line n (accepted (length bs)) bs

-- The line of a text call, by its outcome, and that of a size call, by what it tells.
unfoldable pub outcome_line : ℕ → Outcome → List ℕ
outcome_line n o = told_line n (of_text o) (text_of o)

unfoldable pub size_line : ℕ → Report → List ℕ
size_line n t = told_line n t (decimal t.value)
