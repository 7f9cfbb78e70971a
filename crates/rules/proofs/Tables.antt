-- The table by right places is the plain table: what the calls cite, once. Assumes nothing.
use Prim.Native.Nat.{ℕ}
use mathlib.Core.Path.{◌≡◌, sym, ◌∙◌, ap, fun_ext}
use mathlib.Core.List.{List, []}
use Rattle.streams.specs.Stream.{none, first_record}
use Rattle.streams.specs.Places.{RightFor, nearest}
use Rattle.streams.specs.declared.stream.Stream.{Stream}
use Rattle.streams.specs.declared.places.Spacing.{Spacing}
use Rattle.streams.proofs.Marks.{look-nothing}
use Rattle.codeview.specs.Read.{read_type, read_type_by, id_from, read_id, read_id_by}
use Rattle.codeview.proofs.Right.{type-right, id_right}
use Rattle.rules.specs.Record.{Read, Record, IdRecord, type_as_read, id_as_read, table_of}
use Rattle.rules.specs.Places.{table_by}

module _ (l : Spacing) (ps s : List ℕ) (t : Stream) (r : RightFor l ps s t) (m : Spacing) (qs d : List ℕ) (u : Stream) where
  types-alike : ◌≡◌ {A = ℕ → Read Record} (λ i. type_as_read s (read_type_by l ps s t i)) (λ i. type_as_read s (read_type s t i))
  types-alike = fun_ext (λ i. ap (type_as_read s) (type-right l ps s t r i))

  alike : (v : Stream) → ((i : ℕ) → read_id_by m qs d u i ≡ read_id d v i) → table_by l ps s t m qs d u ≡ table_of s t d v
  unfolding table_by table_of
  alike v q =
      ap (λ (f : ℕ → Read Record). record { types = f; end = t.end; ids = λ i. id_as_read d (read_id_by m qs d u i) }) types-alike
      ∙ ap (λ (g : ℕ → Read IdRecord). record { types = λ i. type_as_read s (read_type s t i); end = t.end; ids = g }) (fun_ext (λ i. ap (id_as_read d) (q i)))

  pub table-right : RightFor m qs d u → table_by l ps s t m qs d u ≡ table_of s t d u
  table-right q = alike u (id_right m qs d u q)

-- Where there are no ids, whatever is said of their stream.
nothing : (m : Spacing) (qs : List ℕ) (u : Stream) (i : ℕ) → read_id_by m qs [] u i ≡ read_id [] none i
unfolding id_from
nothing m qs u i = look-nothing u (nearest m qs u i) i _ _ _ ∙ sym (look-nothing none (first_record none) i _ _ _)

pub table-types : (l : Spacing) (ps s : List ℕ) (t : Stream) → RightFor l ps s t → (m : Spacing) (qs : List ℕ) (u : Stream) → table_by l ps s t m qs [] u ≡ table_of s t [] none
table-types l ps s t r m qs u = alike l ps s t r m qs [] u none (nothing m qs u)
