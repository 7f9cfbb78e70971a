-- Records as the rules see them (document 01, "Streams and records"): what they say, and no place of a stream. The streams are put in here, once.
use Rattle.std.specs.Prelude.{ℕ, zero, suc, ◌+◌, Bool, List, [], ◌∷◌, take, drop, Option, Some, None, Result, Ok, Err}
use Rattle.wire.specs.Field.{number}
use Rattle.wire.specs.declared.name.Name.{Name}
use Rattle.utf8.specs.Utf8.{shown}
use Rattle.streams.specs.declared.refusal.Refusal.{Refusal}
use Rattle.streams.specs.declared.stream.Stream.{Stream}
use Rattle.codeview.specs.Read.{read_type, read_id}
use Rattle.codeview.specs.declared.record.PointerMode.{PointerMode}
use Rattle.codeview.specs.declared.record.ClassKind.{ClassKind}
use Rattle.codeview.specs.declared.record.TypeData.{TypeData}
use Rattle.codeview.specs.declared.record.TypeData.TheVariants as type
use Rattle.codeview.specs.declared.record.IdData.{IdData}
use Rattle.codeview.specs.declared.record.IdData.TheVariants as id

-- The marks of a modifier or of a pointer.
pub record Attributes : Type 0 where
  pub constant : Bool
  pub volatile : Bool

-- A method: its result, class, this pointer and argument list, and whether it is a constructor.
pub record Method : Type 0 where
  pub result : ℕ
  pub class : ℕ
  pub this : ℕ
  pub constructor : Bool
  pub list : ℕ

-- A class or union: whether it is only a forward reference, its size, its name as it is shown, and the name by which a forward reference is matched.
pub record Layout : Type 0 where
  pub forward : Bool
  pub size : ℕ
  pub name : List ℕ
  pub match : List ℕ

-- The records that a text names and does not look into: class, union, enum (with its underlying type), enumerate (with the width of its value), and
-- the kinds whose fields are not read.
pub data Named : Type 0 where
  class : ClassKind → Layout → Named
  union : Layout → Named
  enumeration : ℕ → List ℕ → Named
  enumerate : ℕ → List ℕ → Named
  kind_only : ℕ → Named

-- A type record: pointer (target, mode, marks, size), modifier (target, marks), procedure (result, whether a constructor, list), method, argument list,
-- array (element, bytes), primitive (code, indirection), or one that is named.
pub data Record : Type 0 where
  pointer : ℕ → PointerMode → Attributes → ℕ → Record
  modifier : ℕ → Attributes → Record
  procedure : ℕ → Bool → ℕ → Record
  method : Method → Record
  arguments : List ℕ → Record
  array : ℕ → ℕ → Record
  primitive : ℕ → ℕ → Record
  named : Named → Record

-- An id record: function (scope, type, name), member function (parent, type, name), string list, string, or a kind whose fields are not read.
pub data IdRecord : Type 0 where
  function : ℕ → ℕ → List ℕ → IdRecord
  member_function : ℕ → ℕ → List ℕ → IdRecord
  strings : List ℕ → IdRecord
  string : List ℕ → IdRecord
  id_kind_only : ℕ → IdRecord

-- What an index stands for: a record, or the refusal of rows 5 to 8.
pub data Read (A : Type 0) : Type 0 where
  good : A → Read A
  bad : Refusal → Read A

-- What the rules are given: the types, the index behind the last of them, and the ids.
pub record Table : Type 0 where
  pub types : ℕ → Read Record
  pub end : ℕ
  pub ids : ℕ → Read IdRecord

-- The bytes of a name, and the numbers of a list, that stand at a place of a stream.
unfoldable pub name_at : List ℕ → Name → List ℕ
name_at s n = take n.len (drop n.start s)

-- "A name from a record, written into a text, has each maximal ill-formed part replaced" (document 02, Note 2).
unfoldable pub shown_at : List ℕ → Name → List ℕ
shown_at s n = shown (name_at s n)

unfoldable pub numbers_at : List ℕ → ℕ → ℕ → List ℕ
numbers_at s at zero = []
numbers_at s at (suc n) = number 4 s at ∷ numbers_at s (at + 4) n

-- "Unique name first": the name by which a record is matched. "Forward references are still matched by raw bytes" (Note 2).
unfoldable pub match_name : List ℕ → Name → Option Name → List ℕ
match_name s n (Some u) = name_at s u
match_name s n None = name_at s n

abbrev layout : Bool → ℕ → List ℕ → List ℕ → Layout
layout forward size name match = record { forward = forward; size = size; name = name; match = match }

abbrev attributes : Bool → Bool → Attributes
attributes constant volatile = record { constant = constant; volatile = volatile }

-- A decoded type record, its places read.
unfoldable pub type_contents : List ℕ → TypeData → Record
type_contents s (type.Primitive p) = primitive p.code p.indirection
type_contents s (type.Modifier m) = modifier m.underlying.0 (attributes m.constant m.volatile)
type_contents s (type.Pointer p) = pointer p.underlying.0 p.mode (attributes p.constant p.volatile) p.size
type_contents s (type.Procedure p) = procedure p.result.0 p.constructor p.arguments.0
type_contents s (type.MemberFunction m) =
    method
    (record {
      result = m.result.0;
      class = m.class.0;
      this = m.this.0;
      constructor = m.constructor;
      list = m.arguments.0;
    })
type_contents s (type.ArgumentList e) = arguments (numbers_at s e.start e.count)
type_contents s (type.Enumerate e) = named (enumerate e.width (shown_at s e.name))
type_contents s (type.Array a) = array a.element.0 a.size
type_contents s (type.Class c) =
    named (class c.kind (layout c.forward c.size (shown_at s c.name) (match_name s c.name c.unique)))
type_contents s (type.Union u) = named (union (layout u.forward u.size (shown_at s u.name) (match_name s u.name u.unique)))
type_contents s (type.Enumeration e) = named (enumeration e.underlying.0 (shown_at s e.name))
type_contents s (type.Unhandled k) = named (kind_only k)

-- A decoded id record, its places read.
unfoldable pub id_contents : List ℕ → IdData → IdRecord
id_contents s (id.Function f) = function f.scope.0 f.function.0 (shown_at s f.name)
id_contents s (id.MemberFunction m) = member_function m.parent.0 m.function.0 (shown_at s m.name)
id_contents s (id.StringList e) = strings (numbers_at s e.start e.count)
id_contents s (id.String t) = string (shown_at s t.name)
id_contents s (id.Unhandled k) = id_kind_only k

unfoldable pub type_as_read : List ℕ → Result TypeData Refusal → Read Record
type_as_read s (Ok t) = good (type_contents s t)
type_as_read s (Err f) = bad f

unfoldable pub id_as_read : List ℕ → Result IdData Refusal → Read IdRecord
id_as_read s (Ok d) = good (id_contents s d)
id_as_read s (Err f) = bad f

-- The table of two checked streams.
unfoldable pub table_of : List ℕ → Stream → List ℕ → Stream → Table
table_of s t d u =
    record {
      types = λ i. type_as_read s (read_type s t i);
      end = t.end;
      ids = λ i. id_as_read d (read_id d u i);
    }

-- What follows from a record, by its kind: the one place that lists the kinds for the rules below.
abbrev pub by_kind : {A : Type 0} → Record → (ℕ → PointerMode → Attributes → ℕ → A) → (ℕ → Attributes → A) → (ℕ → Bool → ℕ → A) → (Method → A)
    → (List ℕ → A) → (ℕ → ℕ → A) → (ℕ → ℕ → A) → (Named → A) → A
by_kind (pointer t m a z) f g h i j k l n = f t m a z
by_kind (modifier t a) f g h i j k l n = g t a
by_kind (procedure r c a) f g h i j k l n = h r c a
by_kind (method m) f g h i j k l n = i m
by_kind (arguments list) f g h i j k l n = j list
by_kind (array e b) f g h i j k l n = k e b
by_kind (primitive c d) f g h i j k l n = l c d
by_kind (named x) f g h i j k l n = n x

-- A record of one kind, or any other.
abbrev pub pointer_or : {A : Type 0} → Record → (ℕ → PointerMode → Attributes → ℕ → A) → A → A
pointer_or r f z = by_kind r f (λ t a. z) (λ r c a. z) (λ m. z) (λ list. z) (λ e b. z) (λ c d. z) (λ x. z)

abbrev pub modifier_or : {A : Type 0} → Record → (ℕ → Attributes → A) → A → A
modifier_or r f z = by_kind r (λ t m a n. z) f (λ r c a. z) (λ m. z) (λ list. z) (λ e b. z) (λ c d. z) (λ x. z)

abbrev pub procedure_or : {A : Type 0} → Record → (ℕ → Bool → ℕ → A) → A → A
procedure_or r f z = by_kind r (λ t m a n. z) (λ t a. z) f (λ m. z) (λ list. z) (λ e b. z) (λ c d. z) (λ x. z)

abbrev pub method_or : {A : Type 0} → Record → (Method → A) → A → A
method_or r f z = by_kind r (λ t m a n. z) (λ t a. z) (λ r c a. z) f (λ list. z) (λ e b. z) (λ c d. z) (λ x. z)

abbrev pub arguments_or : {A : Type 0} → Record → (List ℕ → A) → A → A
arguments_or r f z = by_kind r (λ t m a n. z) (λ t a. z) (λ r c a. z) (λ m. z) f (λ e b. z) (λ c d. z) (λ x. z)

abbrev pub array_or : {A : Type 0} → Record → (ℕ → ℕ → A) → A → A
array_or r f z = by_kind r (λ t m a n. z) (λ t a. z) (λ r c a. z) (λ m. z) (λ list. z) f (λ c d. z) (λ x. z)

abbrev pub primitive_or : {A : Type 0} → Record → (ℕ → ℕ → A) → A → A
primitive_or r f z = by_kind r (λ t m a n. z) (λ t a. z) (λ r c a. z) (λ m. z) (λ list. z) (λ e b. z) f (λ x. z)

abbrev pub named_or : {A : Type 0} → Record → (Named → A) → A → A
named_or r f z = by_kind r (λ t m a n. z) (λ t a. z) (λ r c a. z) (λ m. z) (λ list. z) (λ e b. z) (λ c d. z) f
