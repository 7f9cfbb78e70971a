-- Sizes as the code answers them, beside the rules' reading of them. The reading of a size depends neither on the ids nor on what is held.
use Rattle.std.specs.Prelude.{ℕ, zero, suc, ◌+◌, ◌-◌, ◌≡◌, Bool, true, false, ◌&&◌, ◌||◌, not, List, [], ◌∷◌, eqb, Option, unwrap_or, Result, Ok, Err}
use Rattle.wire.specs.Field.{pick, field}
use Rattle.streams.specs.declared.refusal.Refusal.{Refusal}
use Rattle.streams.specs.Bounds.{stream_in}
use Rattle.streams.specs.declared.refusal.StreamKind.TheVariants.{Types}
use Rattle.streams.specs.declared.stream.Stream.{Stream}
use Rattle.streams.specs.declared.stream.Cursor.{Cursor}
use Rattle.codeview.specs.Record.{bit}
use Rattle.codeview.specs.Read.{type_from}
use Rattle.codeview.specs.declared.record.TypeData.{TypeData}
use Rattle.interpreter.specs.Trace.{long, done, halted, count, Trace, tr, Held}
use Rattle.rules.specs.Flags.{Settings}
use Rattle.rules.specs.Record.{type_as_read}
use Rattle.rules.specs.Places.{Near, beside, table_in}
use Rattle.rules.specs.Text.{same_bytes}
use Rattle.rules.specs.Task.{size_of}
use Rattle.rules.specs.Sizes.{full_or, full_size, layout_size}
use Rattle.rules.specs.Opening.{walked}
use Rattle.context.specs.Context.{settings_of}
use Rattle.context.specs.declared.flags.Call.{Call}
use Rattle.queries.specs.declared.sizes.TooLong.{TooLong}

-- The trace of an answer, so many indexes taken up: a size is one number, and a chain that is too long stops at an index.
unfoldable pub size_trace : Result ℕ TooLong → ℕ → Trace Refusal
size_trace (Ok v) k = tr (v ∷ []) done [] (count 0 k)
size_trace (Err e) k = tr [] (halted (long e.0)) [] (count 0 k)

-- The size of an index that comes after so many records of a chain.
pub record Sizes (types : List ℕ) (v : Near) (call : Call) (i n : ℕ) (r : Result ℕ TooLong) : Type 0 where
  pub taken : ℕ
  pub is : (ids : List ℕ) (h : Held) → size_trace r taken ≡ walked (settings_of call) (table_in types (beside ids v)) h (size_of i n)

-- The size of a class or union, whatever name it shows.
pub record LayoutSize (types : List ℕ) (v : Near) (call : Call) (i : ℕ) (forward : Bool) (size : ℕ) (match : List ℕ) (r : ℕ) : Type 0 where
  pub is : (ids name : List ℕ)
      → r ≡ layout_size (settings_of call) (table_in types (beside ids v)) i (record { forward = forward; size = size; name = name; match = match })

-- The size that a forward reference has by the records from an index on, and by those after its own: whatever the settings and the ids.
pub record FullFrom (types : List ℕ) (v : Near) (i : ℕ) (name : List ℕ) (own r : ℕ) : Type 0 where
  pub is : (c : Settings) (ids : List ℕ) → r ≡ full_size c (table_in types (beside ids v)) ((stream_in v.bounds Types).end - i) i name own

abbrev pub FullSize : List ℕ → Near → ℕ → List ℕ → ℕ → ℕ → Type 0
FullSize types v i name own r = FullFrom types v (i + 1) name own r

-- What one record says of it: a size, or that the others decide.
pub record FullLayout (forward : Bool) (size : ℕ) (match name : List ℕ) (r : Option ℕ) : Type 0 where
  pub is : (other : ℕ) → unwrap_or r other ≡ pick (not forward && same_bytes match name) size other

pub record FullOf (types : List ℕ) (t : Result TypeData Refusal) (name : List ℕ) (r : Option ℕ) : Type 0 where
  pub is : (other : ℕ) → unwrap_or r other ≡ full_or (type_as_read types t) name other

-- The kinds of a class, struct, union and interface; and whether the head of the record at a place shows that it is none of these, or property bit 7,
-- which marks a forward reference. A head that reaches past the end shows nothing.
unfoldable pub layout_kind : ℕ → Bool
layout_kind kind = eqb kind 0x1504 || (eqb kind 0x1505 || (eqb kind 0x1506 || eqb kind 0x1519))

unfoldable pub passed_over : List ℕ → ℕ → Bool
passed_over s at =
    field 2 s (at + 2)
    (λ kind. field 2 s (at + 6) (λ properties. pick (layout_kind kind) (bit 7 properties) true) false)
    false

-- What so many records from an index on say, each walked to from one start.
unfoldable pub full_run : List ℕ → Stream → Cursor → ℕ → ℕ → List ℕ → ℕ → ℕ
full_run types t from zero i name other = other
full_run types t from (suc n) i name other = full_or (type_as_read types (type_from types t from i)) name (full_run types t from n (i + 1) name other)

-- What those from an index up to another say.
pub record FullBetween (types : List ℕ) (t : Stream) (from : Cursor) (i stop : ℕ) (name : List ℕ) (r : Option ℕ) : Type 0 where
  pub is : (other : ℕ) → unwrap_or r other ≡ full_run types t from (stop - i) i name other
