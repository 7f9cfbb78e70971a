-- The primitive types (document 01, "Streams and records"): the 43 kinds of cvinfo.h, with the names and byte sizes of 000.
use Rattle.std.specs.Prelude.{ℕ, List, [], ◌∷◌, eqb}
use Prim.Native.String.{String}
use Rattle.wire.specs.Field.{pick}
use Rattle.wire.specs.Text.{bytes}
use Rattle.primitives.specs.declared.PrimitiveKind.{PrimitiveKind}

-- A kind of the table: its code, its name and its byte size.
pub record Kind : Type 0 where
  pub code : ℕ
  pub name : List ℕ
  pub size : ℕ

abbrev kind : ℕ → String → ℕ → Kind
kind code name size = record { code = code; name = bytes name; size = size }

-- The table.
unfoldable pub primitives : List Kind
primitives =
    kind 0x00 "<NoType>" 0 ∷
    kind 0x03 "void" 0 ∷
    kind 0x08 "HRESULT" 4 ∷
    kind 0x10 "signed char" 1 ∷
    kind 0x11 "short" 2 ∷
    kind 0x12 "long" 4 ∷
    kind 0x13 "long long" 8 ∷
    kind 0x14 "int128_t" 16 ∷
    kind 0x20 "unsigned char" 1 ∷
    kind 0x21 "unsigned short" 2 ∷
    kind 0x22 "unsigned long" 4 ∷
    kind 0x23 "unsigned long long" 8 ∷
    kind 0x24 "uint128_t" 16 ∷
    kind 0x30 "bool" 1 ∷
    kind 0x31 "bool16_t" 2 ∷
    kind 0x32 "bool32_t" 4 ∷
    kind 0x33 "bool64_t" 8 ∷
    kind 0x40 "float" 4 ∷
    kind 0x41 "double" 8 ∷
    kind 0x42 "long double" 10 ∷
    kind 0x43 "long double" 16 ∷
    kind 0x44 "float48_t" 6 ∷
    kind 0x45 "float" 4 ∷
    kind 0x46 "float16_t" 2 ∷
    kind 0x50 "complex<float>" 8 ∷
    kind 0x51 "complex<double>" 16 ∷
    kind 0x52 "complex<long double>" 20 ∷
    kind 0x53 "complex<long double>" 32 ∷
    kind 0x68 "int8_t" 1 ∷
    kind 0x69 "uint8_t" 1 ∷
    kind 0x70 "char" 1 ∷
    kind 0x71 "wchar_t" 2 ∷
    kind 0x72 "int16_t" 2 ∷
    kind 0x73 "uint16_t" 2 ∷
    kind 0x74 "int" 4 ∷
    kind 0x75 "unsigned int" 4 ∷
    kind 0x76 "int64_t" 8 ∷
    kind 0x77 "uint64_t" 8 ∷
    kind 0x78 "int128_t" 16 ∷
    kind 0x79 "uint128_t" 16 ∷
    kind 0x7a "char16_t" 2 ∷
    kind 0x7b "char32_t" 4 ∷
    kind 0x7c "char8_t" 1 ∷
    []

-- The first kind of a table that has a code, handed on, or what is said where none has.
unfoldable pub first_of : {A : Type 0} → ℕ → List Kind → (Kind → A) → A → A
first_of code [] found none = none
first_of code (k ∷ ks) found none = pick (eqb k.code code) (found k) (first_of code ks found none)

-- A kind as the code answers it.
abbrev pub kind_of : PrimitiveKind → Kind
kind_of k = record { code = k.code; name = k.name.now; size = k.size }
