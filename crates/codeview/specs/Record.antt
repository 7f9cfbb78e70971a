-- Records (document 01, "Streams and records", over cvinfo.h's structures): what the bytes `b` of a record's fields say. `base` is where
-- they stand in the stream: names and lists are handed on as places there.
use Rattle.std.specs.Prelude.{ℕ, ◌+◌, ◌*◌, ◌/◌, ◌%◌, ◌^◌, Bool, true, false, List, length, leb, eqb, Option, Some, None, Result, Ok, Err}
use Rattle.wire.specs.Field.{pick, field}
use Rattle.wire.specs.Leaf.{leaf, width_of}
use Rattle.wire.specs.Name.{name}
use Rattle.wire.specs.declared.name.Name.{Name}
use Rattle.codeview.specs.declared.index.TypeIndex.{TypeIndex}
use Rattle.codeview.specs.declared.index.IdIndex.{IdIndex}
use Rattle.streams.specs.declared.refusal.Refusal.TheVariants.{UnlistedKind}
use Rattle.codeview.specs.declared.record.Entries.{Entries}
use Rattle.codeview.specs.declared.record.PointerMode.{PointerMode}
use Rattle.codeview.specs.declared.record.UnlistedMode.{UnlistedMode}
use Rattle.codeview.specs.declared.record.PointerMode.TheVariants as mode
use Rattle.codeview.specs.declared.record.ClassKind.{ClassKind}
use Rattle.codeview.specs.declared.record.ClassKind.TheVariants as class
use Rattle.codeview.specs.declared.record.TypeData.TheVariants as type
use Rattle.streams.specs.declared.refusal.Refusal.{Refusal}
use Rattle.codeview.specs.declared.record.TypeData.{TypeData}

-- A number as an index of one of the two counters.
abbrev pub type_index : ℕ → TypeIndex
type_index n = record { 0 = n }

abbrev pub id_index : ℕ → IdIndex
id_index n = record { 0 = n }

-- A bit of a number, counted from 0.
unfoldable pub bit : ℕ → ℕ → Bool
bit k n = eqb (n / 2 ^ k % 2) 1

-- A name that starts at a place and has so many bytes.
abbrev pub place : ℕ → ℕ → Name
place start len = record { start = start; len = len }

-- The name at a place of the fields, as a place of the stream.
abbrev pub placed : {A : Type 0} → ℕ → List ℕ → ℕ → (Name → A) → A → A
placed base b at whole bad = name b at (λ n. whole (place (base + at) n)) bad

-- The name at a place and, where property bit 9 is set, the unique name behind it ("Property bit 9 adds a unique name").
unfoldable pub names : {A : Type 0} → ℕ → ℕ → List ℕ → ℕ → (Name → Option Name → A) → A → A
names base properties b at both bad =
    name b at
    (λ n.
    pick (bit 9 properties)
    (name b (at + n + 1) (λ m. both (place (base + at) n) (Some (place (base + (at + n + 1)) m))) bad)
    (both (place (base + at) n) None))
    bad

-- A list: a count, and so many u32 behind it.
unfoldable pub entries : {A : Type 0} → ℕ → List ℕ → (Entries → A) → A → A
entries base b whole bad =
    field 4 b 0 (λ count. pick (leb (4 + 4 * count) (length b)) (whole (record { start = base + 4; count = count })) bad) bad

-- The mode of a pointer, bits 5 to 7 of its attributes ("pointer mode above 4" is malformed).
unfoldable pub pointer_mode : {A : Type 0} → ℕ → (PointerMode → A) → A → A
pointer_mode m known bad =
    pick (eqb m 0) (known mode.Pointer)
    (pick (eqb m 1) (known mode.LValueReference)
    (pick (eqb m 2) (known mode.Member)
    (pick (eqb m 3) (known mode.MemberFunction)
    (pick (eqb m 4) (known mode.RValueReference)
    bad))))

-- The same, as the code answers it.
abbrev pub mode_answer : ℕ → Result PointerMode UnlistedMode
mode_answer m = pointer_mode m Ok (Err (record {}))

-- The containing class of a pointer to a member, and how it is represented ("the six member bytes of pointer modes 2 and 3").
unfoldable pub containing : {A : Type 0} → List ℕ → (ℕ → A) → A → A
containing b class bad = field 4 b 8 (λ c. field 2 b 12 (λ representation. class c) bad) bad

-- The containing class by the mode: index 0 where there is none.
unfoldable pub member_class : {A : Type 0} → PointerMode → List ℕ → (ℕ → A) → A → A
member_class mode.Pointer b class bad = class 0
member_class mode.LValueReference b class bad = class 0
member_class mode.Member b class bad = containing b class bad
member_class mode.MemberFunction b class bad = containing b class bad
member_class mode.RValueReference b class bad = class 0

-- The fields of each kind, in the order of cvinfo.h's structures. A record is malformed where "a field, .. list entry or closing zero of a name" lies
-- "past the record": `⇒` goes on with what was read, and stops there else. "Trailing bytes are ignored."
module _ (bad : Result TypeData Refusal) (base : ℕ) where
  infixr 5 ◌⇒◌
  abbrev ◌⇒◌ : {K : Type 0} → (K → Result TypeData Refusal → Result TypeData Refusal) → K → Result TypeData Refusal
  r ⇒ k = r k bad

  unfoldable pub modifier_of : List ℕ → Result TypeData Refusal
  modifier_of b =
      field 4 b 0 ⇒ λ underlying.
      field 2 b 4 ⇒ λ attributes.
      Ok
      (type.Modifier
      (record {
        underlying = type_index underlying;
        constant = bit 0 attributes;
        volatile = bit 1 attributes;
        unaligned = bit 2 attributes;
      }))

  unfoldable pub pointer_of : List ℕ → Result TypeData Refusal
  pointer_of b =
      field 4 b 0 ⇒ λ underlying.
      field 4 b 4 ⇒ λ attributes.
      pointer_mode (attributes / 32 % 8) ⇒ λ mode.
      member_class mode b ⇒ λ class.
      Ok
      (type.Pointer
      (record {
        underlying = type_index underlying;
        mode = mode;
        constant = bit 10 attributes;
        volatile = bit 9 attributes;
        size = attributes / 8192 % 64;
        class = type_index class;
      }))

  -- The byte behind the calling convention holds the function's attributes: its bit 1 marks a constructor.
  unfoldable pub procedure_of : List ℕ → Result TypeData Refusal
  procedure_of b =
      field 4 b 0 ⇒ λ result.
      field 2 b 4 ⇒ λ attributes.
      field 2 b 6 ⇒ λ parameters.
      field 4 b 8 ⇒ λ arguments.
      Ok
      (type.Procedure
      (record {
        result = type_index result;
        constructor = bit 9 attributes;
        parameters = parameters;
        arguments = type_index arguments;
      }))

  unfoldable pub member_function_of : List ℕ → Result TypeData Refusal
  member_function_of b =
      field 4 b 0 ⇒ λ result.
      field 4 b 4 ⇒ λ class.
      field 4 b 8 ⇒ λ this.
      field 2 b 12 ⇒ λ attributes.
      field 2 b 14 ⇒ λ parameters.
      field 4 b 16 ⇒ λ arguments.
      field 4 b 20 ⇒ λ adjustment.
      Ok
      (type.MemberFunction
      (record {
        result = type_index result;
        class = type_index class;
        this = type_index this;
        constructor = bit 9 attributes;
        parameters = parameters;
        arguments = type_index arguments;
        adjustment = adjustment;
      }))

  unfoldable pub argument_list_of : List ℕ → Result TypeData Refusal
  argument_list_of b = entries base b ⇒ λ list. Ok (type.ArgumentList list)

  unfoldable pub enumerate_of : List ℕ → Result TypeData Refusal
  enumerate_of b =
      field 2 b 0 ⇒ λ attributes.
      leaf (width_of true) b 2 ⇒ λ value width next.
      name b next ⇒ λ n.
      Ok (type.Enumerate (record { attributes = attributes; value = value; width = width; name = place (base + next) n }))

  -- "An array size above 4,294,967,295" is malformed.
  unfoldable pub array_of : List ℕ → Result TypeData Refusal
  array_of b =
      field 4 b 0 ⇒ λ element.
      field 4 b 4 ⇒ λ indexing.
      leaf (width_of false) b 8 ⇒ λ size width next.
      name b next ⇒ λ n.
      pick (leb size 4_294_967_295)
      (Ok
      (type.Array (record { element = type_index element; indexing = type_index indexing; size = size; name = place (base + next) n })))
      bad

  -- "Property bit 9 adds a unique name, bit 7 marks a forward reference."
  unfoldable pub class_of : ClassKind → List ℕ → Result TypeData Refusal
  class_of kind b =
      field 2 b 0 ⇒ λ count.
      field 2 b 2 ⇒ λ properties.
      field 4 b 4 ⇒ λ fields.
      field 4 b 8 ⇒ λ derived.
      field 4 b 12 ⇒ λ shape.
      leaf (width_of false) b 16 ⇒ λ size width next.
      names base properties b next ⇒ λ name unique.
      Ok
      (type.Class
      (record {
        kind = kind;
        count = count;
        forward = bit 7 properties;
        fields = type_index fields;
        derived = type_index derived;
        shape = type_index shape;
        size = size;
        name = name;
        unique = unique;
      }))

  unfoldable pub union_of : List ℕ → Result TypeData Refusal
  union_of b =
      field 2 b 0 ⇒ λ count.
      field 2 b 2 ⇒ λ properties.
      field 4 b 4 ⇒ λ fields.
      leaf (width_of false) b 8 ⇒ λ size width next.
      names base properties b next ⇒ λ name unique.
      Ok
      (type.Union
      (record {
        count = count;
        forward = bit 7 properties;
        fields = type_index fields;
        size = size;
        name = name;
        unique = unique;
      }))

  unfoldable pub enumeration_of : List ℕ → Result TypeData Refusal
  enumeration_of b =
      field 2 b 0 ⇒ λ count.
      field 2 b 2 ⇒ λ properties.
      field 4 b 4 ⇒ λ underlying.
      field 4 b 8 ⇒ λ fields.
      names base properties b 12 ⇒ λ name unique.
      Ok
      (type.Enumeration
      (record {
        count = count;
        forward = bit 7 properties;
        underlying = type_index underlying;
        fields = type_index fields;
        name = name;
        unique = unique;
      }))

  -- A record of the type stream, by its kind. "Types 0x1203, 0x1205, 0x1206 .. their fields are not read"; 7 for a kind that is not listed.
  unfoldable pub type_of : ℕ → List ℕ → Result TypeData Refusal
  type_of kind b =
      pick (eqb kind 0x1001) (modifier_of b)
      (pick (eqb kind 0x1002) (pointer_of b)
      (pick (eqb kind 0x1008) (procedure_of b)
      (pick (eqb kind 0x1009) (member_function_of b)
      (pick (eqb kind 0x1201) (argument_list_of b)
      (pick (eqb kind 0x1502) (enumerate_of b)
      (pick (eqb kind 0x1503) (array_of b)
      (pick (eqb kind 0x1504) (class_of class.Class b)
      (pick (eqb kind 0x1505) (class_of class.Struct b)
      (pick (eqb kind 0x1519) (class_of class.Interface b)
      (pick (eqb kind 0x1506) (union_of b)
      (pick (eqb kind 0x1507) (enumeration_of b)
      (pick (eqb kind 0x1203) (Ok (type.Unhandled kind))
      (pick (eqb kind 0x1205) (Ok (type.Unhandled kind))
      (pick (eqb kind 0x1206) (Ok (type.Unhandled kind))
      (Err (UnlistedKind kind))))))))))))))))
