-- The laws of the records that a text names by no word of their own, and of numbers past the end. Assumes nothing.
use Prim.Native.Nat.{ℕ, zero, suc, ◌+◌, ◌≤◌}
use mathlib.Core.Path.{◌≡◌, refl}
use mathlib.Core.List.{List, []}
use lib.ListN.{length, get_or-eq_default}
use native.Mathlib.Omega.{arith}
use Rattle.wire.specs.Field.{number}
use Rattle.codeview.specs.declared.record.ClassType.{ClassType}
use Rattle.codeview.specs.declared.record.UnionType.{UnionType}
use Rattle.codeview.specs.declared.record.EnumerationType.{EnumerationType}
use Rattle.codeview.specs.declared.record.EnumerateType.{EnumerateType}
use Rattle.codeview.specs.declared.record.TypeData.{TypeData}
use Rattle.codeview.specs.declared.record.TypeData.TheVariants as type
use Rattle.rules.specs.Flags.{Settings}
use Rattle.rules.specs.Record.{type_contents}
use Rattle.pen.specs.Page.{writing}
use Rattle.leaf_writers.specs.Fragments.{record_text}

-- A record of any other kind is looked into, and its text is nothing here.
pub record-none : (c : Settings) (s : List ℕ) (t : TypeData) → ((x : ClassType) → t ≡ type.Class x → ⊥) → ((x : UnionType) → t ≡ type.Union x → ⊥) → ((x : EnumerationType) → t ≡ type.Enumeration x → ⊥)
    → ((x : EnumerateType) → t ≡ type.Enumerate x → ⊥) → ((k : ℕ) → t ≡ type.Unhandled k → ⊥) → writing [] ≡ writing (record_text c s t)
unfolding record_text type_contents
record-none c s (type.Class x) h i j k l = absurd (h x refl)
record-none c s (type.Union x) h i j k l = absurd (i x refl)
record-none c s (type.Enumeration x) h i j k l = absurd (j x refl)
record-none c s (type.Enumerate x) h i j k l = absurd (k x refl)
record-none c s (type.Unhandled n) h i j k l = absurd (l n refl)
record-none c s t h i j k l = refl

-- Bytes past the end count as zeros, and so does a number made of them.
pub number_past : (width : ℕ) (s : List ℕ) (at : ℕ) → length s ≤ at → number width s at ≡ 0
unfolding number
number_past zero s at h = refl
number_past (suc width) s at h = rw (get_or-eq_default s 0 h, number_past width s (at + 1) (omega arith)) refl
