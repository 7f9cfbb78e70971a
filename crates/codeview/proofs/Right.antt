-- By right places an index stands for what it stands for. Assumes nothing.
use Rattle.std.specs.Prelude.{Result}
use Prim.Native.Nat.{ℕ}
use mathlib.Core.Path.{◌≡◌, ap}
use mathlib.Core.List.{List}
use lib.Dec.{ltb}
use Rattle.wire.specs.Field.{pick}
use Rattle.streams.specs.Places.{RightFor}
use Rattle.streams.specs.declared.stream.Stream.{Stream}
use Rattle.streams.specs.declared.places.Spacing.{Spacing}
use Rattle.streams.proofs.Marks.{look-right}
use Rattle.codeview.specs.Read.{primitive_of, type_from, id_from, read_type, read_type_by, read_id, read_id_by}
use Rattle.streams.specs.declared.refusal.Refusal.{Refusal}
use Rattle.codeview.specs.declared.record.TypeData.{TypeData}

module _ (l : Spacing) (ps s : List ℕ) (t : Stream) (r : RightFor l ps s t) (i : ℕ) where
  pub type-right : read_type_by l ps s t i ≡ read_type s t i
  unfolding type_from
  type-right = ap (λ (x : Result TypeData Refusal). pick (ltb i 0x1000) (primitive_of i) x) (look-right l ps s t r i _ _ _)

  pub id_right : read_id_by l ps s t i ≡ read_id s t i
  unfolding id_from
  id_right = look-right l ps s t r i _ _ _
