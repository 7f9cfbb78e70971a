-- What a text call leaves: the buffer, and what it tells by number, detail and length.
use Rattle.std.specs.Prelude.{ℕ, List, [], length, replicate, Result, Ok, Err}
use Rattle.streams.specs.declared.refusal.Refusal.{Refusal}
use Rattle.streams.specs.declared.refusal.Refusal.TheVariants as refusal
use Rattle.pen.specs.declared.Pen.{Pen}
use Rattle.pen.specs.declared.Stop.{Stop}
use Rattle.pen.specs.declared.Stop.TheVariants as stop
use Rattle.rules.specs.Call.{Outcome, text, stopped, buffer_after, Report, refused_by, accepted, of_text}

pub record Left : Type 0 where
  pub buf : List ℕ
  pub told : Report

abbrev pub left : List ℕ → Report → Left
left b t = record { buf = b; told = t }

-- What each case of an answer tells, and what the call leaves with it.
unfoldable pub of_answer : (Result ℕ Refusal) → Report
of_answer (Ok n) = accepted n
of_answer (Err f) = refused_by f

abbrev pub given : List ℕ → (Result ℕ Refusal) → Left
given b a = left b (of_answer a)

-- An outcome of the rules, over the buffer that was lent.
unfoldable pub laid : List ℕ → Outcome → Left
laid buf o = left (buffer_after buf o) (of_text o)

-- The text of an outcome: none where the call is refused.
unfoldable pub text_of : Outcome → List ℕ
text_of (text bs n) = bs
text_of (stopped f) = []

-- What is left where a refused call fills the buffer with zeros.
unfoldable pub settled : List ℕ → (Result ℕ Refusal) → Left
settled b (Ok n) = left b (accepted n)
settled b (Err f) = left (replicate (length b) 0) (refused_by f)

-- The pen before the first byte, and the answer by where and how it stopped. Outside every type a missing record is refusal 8.
unfoldable pub started : ℕ → Pen
started limit = record { at = 0; tally = 0; limit = limit; stop = 0; detail = 0 }

abbrev pub answered_by : Stop → ℕ → (Result ℕ Refusal)
answered_by stop.No n = Ok n
answered_by (stop.Missing i) n = Err (refusal.Missing i)
answered_by (stop.Refused f) n = Err f
