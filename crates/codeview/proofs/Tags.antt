-- One law over tags: what holds of each kind of record that a list names holds of every record whose tag is one of the list. Assumes nothing.
use Prim.Native.Nat.{ℕ}
use mathlib.Core.Path.{◌≡◌, refl}
use mathlib.Core.Bool.{Bool, true, false}
use mathlib.Core.List.{List}
use mir.Val.{has_key}
use denote.Enum.Declared.{tag_of}
use package.types.Run.{OneOf, miss}
use Rattle.codeview.specs.declared.record.Entries.{Entries}
use Rattle.codeview.specs.declared.record.PrimitiveType.{PrimitiveType}
use Rattle.codeview.specs.declared.record.ModifierType.{ModifierType}
use Rattle.codeview.specs.declared.record.PointerType.{PointerType}
use Rattle.codeview.specs.declared.record.ProcedureType.{ProcedureType}
use Rattle.codeview.specs.declared.record.MemberFunctionType.{MemberFunctionType}
use Rattle.codeview.specs.declared.record.EnumerateType.{EnumerateType}
use Rattle.codeview.specs.declared.record.ArrayType.{ArrayType}
use Rattle.codeview.specs.declared.record.ClassType.{ClassType}
use Rattle.codeview.specs.declared.record.UnionType.{UnionType}
use Rattle.codeview.specs.declared.record.EnumerationType.{EnumerationType}
use Rattle.codeview.specs.declared.record.TypeData.{TypeData}
use Rattle.codeview.specs.declared.record.TypeData.TheVariants as type
use Rattle.codeview.specs.contracts.record.TypeData.{the_type}

abbrev Asked : Bool → Type 0 → Type 0
Asked true P = P
Asked false P = Unit {0}

asked : (ks : List ℕ) (k : ℕ) (P : Type 0) → Asked (has_key ks k) P → OneOf ks k → P
asked ks k P a o = go (has_key ks k) refl a
  where
    go : (b : Bool) → has_key ks k ≡ b → Asked b P → P
    go true e p = p
    go false e p = absurd (miss ks k (rw e tt) o)

-- `P` of each kind whose tag is in the list.
module _ (ks : List ℕ) (P : TypeData → Type 0) where
  pub record Each : Type 0 where
    pub primitive : Asked (has_key ks 0) ((x : PrimitiveType) → P (type.Primitive x))
    pub modifier : Asked (has_key ks 1) ((x : ModifierType) → P (type.Modifier x))
    pub pointer : Asked (has_key ks 2) ((x : PointerType) → P (type.Pointer x))
    pub procedure : Asked (has_key ks 3) ((x : ProcedureType) → P (type.Procedure x))
    pub method : Asked (has_key ks 4) ((x : MemberFunctionType) → P (type.MemberFunction x))
    pub arguments : Asked (has_key ks 5) ((x : Entries) → P (type.ArgumentList x))
    pub enumerate : Asked (has_key ks 6) ((x : EnumerateType) → P (type.Enumerate x))
    pub array : Asked (has_key ks 7) ((x : ArrayType) → P (type.Array x))
    pub class : Asked (has_key ks 8) ((x : ClassType) → P (type.Class x))
    pub union : Asked (has_key ks 9) ((x : UnionType) → P (type.Union x))
    pub enumeration : Asked (has_key ks 10) ((x : EnumerationType) → P (type.Enumeration x))
    pub unhandled : Asked (has_key ks 11) ((x : ℕ) → P (type.Unhandled x))

  pub by-tag : Each → (t : TypeData) → OneOf ks (tag_of the_type t) → P t
  by-tag e (type.Primitive x) o = asked ks 0 _ e.primitive o x
  by-tag e (type.Modifier x) o = asked ks 1 _ e.modifier o x
  by-tag e (type.Pointer x) o = asked ks 2 _ e.pointer o x
  by-tag e (type.Procedure x) o = asked ks 3 _ e.procedure o x
  by-tag e (type.MemberFunction x) o = asked ks 4 _ e.method o x
  by-tag e (type.ArgumentList x) o = asked ks 5 _ e.arguments o x
  by-tag e (type.Enumerate x) o = asked ks 6 _ e.enumerate o x
  by-tag e (type.Array x) o = asked ks 7 _ e.array o x
  by-tag e (type.Class x) o = asked ks 8 _ e.class o x
  by-tag e (type.Union x) o = asked ks 9 _ e.union o x
  by-tag e (type.Enumeration x) o = asked ks 10 _ e.enumeration o x
  by-tag e (type.Unhandled x) o = asked ks 11 _ e.unhandled o x
