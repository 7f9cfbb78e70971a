-- What calls tell a C program beside the buffer. The sheet call: 1 where lines are left, else 0; how many bytes and lines are printed.
use Rattle.std.specs.Prelude.{ℕ, length, Result, Ok, Err}
use Rattle.wire.specs.Field.{pick}
use Rattle.rules.specs.Call.{Report, refused_by, accepted}
use Rattle.sheet.specs.Sheet.{Fit}
use Rattle.sheet.specs.declared.Printed.{Printed}
use Rattle.msf.specs.Damage.{number_of, place_of}
use Rattle.streams.specs.declared.refusal.Refusal.{Refusal}
use Rattle.msf.specs.declared.damage.Damage.{Damage}

pub record Counts : Type 0 where
  pub left : ℕ
  pub bytes : ℕ
  pub lines : ℕ

abbrev pub counts : ℕ → ℕ → ℕ → Counts
counts m b l = record { left = m; bytes = b; lines = l }

-- Of what was printed, and of the lines that fit.
abbrev pub of_printed : Printed → Counts
of_printed p = counts (pick p.more 1 0) p.bytes p.lines

unfoldable pub of_fit : Fit → Counts
of_fit f = counts (pick f.more 1 0) (length f.bytes) f.lines

-- The container's call: the number of the damage, or 0; its place, or 0; the length of the stream, or 0 where it is not handed out.
pub record Told : Type 0 where
  pub number : ℕ
  pub place : ℕ
  pub len : ℕ

abbrev pub told : ℕ → ℕ → ℕ → Told
told n at len = record { number = n; place = at; len = len }

unfoldable pub of_read : (Result ℕ Damage) → Told
of_read (Ok n) = told 0 0 n
of_read (Err d) = told (number_of d) (place_of d) 0

-- The pass that fills places: the refusal's number, or 0; its detail, or 0; how many entries are filled, or 0 where it is refused.
unfoldable pub of_pass : (Result ℕ Refusal) → Report
of_pass (Ok n) = accepted n
of_pass (Err f) = refused_by f
