-- An id stream of no bytes (document 02, Note 1): it is read as one of a header and no records is, whatever that header's first index, and "each index that 6 does
-- not refuse is missing and is written so". Assumes nothing.
use Prim.Native.Nat.{ℕ, ◌≤◌}
use native.Mathlib.Omega.{arith}
use mathlib.Core.Path.{◌≡◌, refl, sym, ◌∙◌, ap, fun_ext}
use mathlib.Core.Bool.{Bool, true, false}
use mathlib.Core.List.{List, []}
use lib.Dec.{leb}
use Rattle.std.specs.Prelude.{Ok, Err}
use Rattle.wire.specs.Field.{pick}
use Rattle.streams.specs.Stream.{header, none, no_ids, headless, checked}
use Rattle.streams.specs.declared.refusal.StreamKind.TheVariants.{Types, Ids}
use Rattle.streams.specs.declared.refusal.Refusal.{Refusal}
use Rattle.streams.specs.declared.refusal.Refusal.TheVariants.{Missing, CrossModule}
use Rattle.streams.specs.declared.stream.Stream.{Stream}
use Rattle.streams.proofs.Marks.{look_none}
use Rattle.codeview.specs.Read.{read_type, id_from, read_id}
use Rattle.interpreter.specs.Trace.{done, refused, count, Trace, tr, exec, opening, run, walk}
use Rattle.rules.specs.Flags.{Settings, settings, sized, flagged}
use Rattle.rules.specs.Record.{Read, IdRecord, bad, type_as_read, id_as_read, Table, table_of}
use Rattle.rules.specs.Text.{missing_mark}
use Rattle.rules.specs.Task.{Task, id_of, marked}
use Rattle.rules.specs.Ids.{id_alone}
use Rattle.rules.specs.Opening.{after_read, entry_of, body, walked}
use Rattle.rules.specs.Call.{refusal, whole, over_ids, id_reading, strictly, id_outcome, within}

-- It is good.
pub checked-nothing : checked Ids [] ≡ Ok none
unfolding checked header headless no_ids
checked-nothing = refl

-- In a stream of no records each id is absent: of another module, or missing.
abbrev absent : Bool → ℕ → Read IdRecord
absent b i = bad (pick b (CrossModule i) (Missing i))

id-absent : (ids : List ℕ) (u : Stream) → u.end ≤ u.first → (i : ℕ) → id_as_read ids (read_id ids u i) ≡ absent (leb 0x8000_0000 i) i
unfolding id_from id_as_read
id-absent ids u h i =
    ap (id_as_read ids) (look_none ids u h i _ (Err (Missing i)) (Err (CrossModule i)))
    ∙ go (leb 0x8000_0000 i)
  where
    go : (b : Bool) → id_as_read ids (pick b (Err (CrossModule i)) (Err (Missing i))) ≡ absent b i
    go true = refl
    go false = refl

nothing-absent : (i : ℕ) → id_as_read [] (read_id [] none i) ≡ absent (leb 0x8000_0000 i) i
nothing-absent i = id-absent [] none (omega arith) i

tables-alike : (types : List ℕ) (t : Stream) (ids : List ℕ) (u : Stream) → u.end ≤ u.first → table_of types t [] none ≡ table_of types t ids u
unfolding table_of
tables-alike types t ids u h =
    ap (λ (g : ℕ → Read IdRecord). record { types = λ i. type_as_read types (read_type types t i); end = t.end; ids = g })
    (fun_ext (λ i. nothing-absent i ∙ sym (id-absent ids u h i)))

-- Every id call is read alike over no bytes and over a header with no records, strictly or plainly, and so answered alike in any buffer.
module _ (flags size : ℕ) (types ids : List ℕ) (u : Stream) (e : checked Ids ids ≡ Ok u) (h : u.end ≤ u.first) (index : ℕ) where
  pub no-ids-read : (read : Settings → Table → Task → Trace Refusal) → id_reading read flags size types [] index ≡ id_reading read flags size types ids index
  unfolding id_reading over_ids whole
  no-ids-read read =
      rw (checked-nothing, e)
      (ap (λ (k : Stream → Trace Refusal). flagged flags (sized size (whole (checked Types types) k) refusal) refusal)
      (fun_ext (λ t. ap (λ (v : Table). read (settings flags size) v (id_of index)) (tables-alike types t ids u h))))

  pub no-ids-answered : (room : ℕ) → id_outcome flags size types [] index room ≡ id_outcome flags size types ids index room
  unfolding id_outcome
  no-ids-answered room = ap (λ (r : Trace Refusal). within room r) (no-ids-read strictly)

-- What an id call reads over no bytes, behind its checks: refusal 6, or the mark.
abbrev absent_text : Bool → ℕ → Trace Refusal
absent_text true i = tr [] (refused (CrossModule i)) [] (count 0 1)
absent_text false i = tr (missing_mark i) done [] (count 0 1)

absent-walked : (c : Settings) (v : Table) (i : ℕ) (b : Bool) → v.ids i ≡ absent b i → strictly c v (id_of i) ≡ absent_text b i
unfolding walked walk run opening exec entry_of body after_read id_alone marked
absent-walked c v i true e = rw e
absent-walked c v i false e = rw e

pub no-ids-text : (flags size : ℕ) (types : List ℕ) (index : ℕ) → id_reading strictly flags size types [] index ≡ flagged flags (sized size (whole (checked Types types) (λ t. absent_text (leb 0x8000_0000 index) index)) refusal) refusal
unfolding id_reading over_ids whole table_of
no-ids-text flags size types index =
    rw checked-nothing
    (ap (λ (k : Stream → Trace Refusal). flagged flags (sized size (whole (checked Types types) k) refusal) refusal)
    (fun_ext (λ t. absent-walked (settings flags size) (table_of types t [] none) index (leb 0x8000_0000 index) (nothing-absent index))))
