-- The table of two streams by their places, whatever these are: each look-up starts at the nearest one.
use Rattle.std.specs.Prelude.{ℕ, List, Result}
use Rattle.streams.specs.Bounds.{stream_in, spacing_in, places_in}
use Rattle.streams.specs.declared.refusal.Refusal.{Refusal}
use Rattle.streams.specs.declared.refusal.StreamKind.TheVariants.{Types, Ids}
use Rattle.streams.specs.declared.stream.Stream.{Stream}
use Rattle.streams.specs.declared.places.Spacing.{Spacing}
use Rattle.codeview.specs.declared.lent.Lent.{Lent as Given}
use Rattle.codeview.specs.Read.{read_type_by, read_type_in, read_id_by}
use Rattle.codeview.specs.declared.record.TypeData.{TypeData}
use Rattle.rules.specs.Record.{Table, type_as_read, id_as_read}

unfoldable pub table_by : Spacing → List ℕ → List ℕ → Stream → Spacing → List ℕ → List ℕ → Stream → Table
table_by l ps s t m qs d u =
    record {
      types = λ i. type_as_read s (read_type_by l ps s t i);
      end = t.end;
      ids = λ i. id_as_read d (read_id_by m qs d u i);
    }

-- What a look-up goes by: the numbers that the checks found of both streams with the places of the ids behind them, and the places of the types.
pub record Near : Type 0 where
  pub bounds : List ℕ
  pub places : List ℕ

abbrev pub near : List ℕ → List ℕ → Near
near bounds places = record { bounds = bounds; places = places }

-- What a type index stands for by it.
abbrev pub read_near : List ℕ → Near → ℕ → Result TypeData Refusal
read_near types v i = read_type_in types v.bounds v.places i

-- What is lent to a call's writers beside the types: the ids, and what a look-up goes by.
pub record Lent : Type 0 where
  pub ids : List ℕ
  pub near : Near

abbrev pub beside : List ℕ → Near → Lent
beside ids v = record { ids = ids; near = v }

abbrev pub lent : List ℕ → List ℕ → List ℕ → Lent
lent ids bounds places = beside ids (near bounds places)

-- The same of what the code is lent.
abbrev pub near_in : Given → Near
near_in l = near l.bounds.now l.places.now

abbrev pub lent_in : Given → Lent
lent_in l = beside l.ids.now (near_in l)

-- The table that the writers go by.
unfoldable pub table_in : List ℕ → Lent → Table
table_in types d =
    table_by (spacing_in d.near.bounds Types) (places_in d.near.bounds d.near.places Types) types (stream_in d.near.bounds Types)
    (spacing_in d.near.bounds Ids) (places_in d.near.bounds d.near.places Ids) d.ids (stream_in d.near.bounds Ids)
