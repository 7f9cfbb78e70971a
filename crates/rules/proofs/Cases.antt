-- The ten numbered cases of document 01, "A small stream", and further ones: tables, and one theorem over the definitions for each by computation. Assumes
-- nothing.
use Prim.Native.Nat.{ℕ, zero, suc, ◌+◌, ◌-◌, ◌/◌, ◌%◌}
use Prim.Native.String.{String}
use mathlib.Core.Path.{◌≡◌, refl}
use mathlib.Core.Bool.{Bool, true, false, ◌||◌}
use mathlib.Core.List.{List, [], ◌∷◌, ◌++◌, map}
use lib.Dec.{eqb}
use lib.ListN.{length, replicate}
use Rattle.wire.specs.Field.{number, field}
use Rattle.wire.specs.Leaf.{size_width, value_width, width_of, payload, leaf}
use Rattle.wire.specs.Name.{zero_from, name_end, name}
use Rattle.wire.specs.Text.{bytes}
use Rattle.utf8.specs.Utf8.{is_in, table, behind_in, behind as behind_byte, fitting, is_whole, reach, shown_part, shown_past, shown as shown_bytes}
use Rattle.streams.specs.Refusal.{number_of, detail_of}
use Rattle.streams.specs.declared.refusal.Refusal.TheVariants.{Missing}
use Rattle.codeview.specs.declared.record.PointerMode.TheVariants as mode
use Rattle.codeview.specs.declared.record.ClassKind.TheVariants as kind
use Rattle.streams.specs.Stream.{indexes, header, behind, passed, tiled, checked, record_at, walk_from, look_from, part}
use Rattle.primitives.specs.Primitive.{primitives, first_of}
use Rattle.codeview.specs.Record.{bit, names, entries, pointer_mode, containing, member_class, modifier_of, pointer_of, procedure_of, member_function_of, argument_list_of, enumerate_of, array_of, class_of, union_of, enumeration_of, type_of}
use Rattle.codeview.specs.Read.{primitive_of, type_from}
use Rattle.interpreter.specs.Trace.{exec, is_open, opening, run, need, walk, held}
use Rattle.rules.specs.Flags.{settings, sized, flagged}
use Rattle.rules.specs.Record.{Attributes, class, Record, pointer, modifier, procedure, method, arguments, array, primitive, named, IdRecord, function, Read, good, bad, Table, name_at, shown_at, numbers_at, match_name, type_contents, type_as_read, table_of}
use Rattle.rules.specs.Text.{digit, numeral, hex, decimal, missing_mark, unimplemented_mark, function_name, primitive_name, primitive_size, primitive_text, worded, class_text, over_pointee, sign, levels, ends_signed, bracket, brackets, same_bytes}
use Rattle.rules.specs.Task.{Task, by_itself, size_of, id_of, separated, unread, marked, value_of}
use Rattle.rules.specs.Types.{comma, result, procedure_result, returned, method_arguments, procedure_arguments, named_text, type_text, alone}
use Rattle.rules.specs.Pointers.{pointed, aimed, aimed_again, modified_text}
use Rattle.rules.specs.Methods.{method_text, this_pointer, method_list, static_mark, method_named, procedure_named}
use Rattle.rules.specs.Arrays.{base_text, element_text}
use Rattle.rules.specs.Sizes.{full_layout, full_named, full_or, full_size, layout_size, named_size, record_size, size_step}
use Rattle.rules.specs.Ids.{scope_text, function_id_text, id_text, id_alone, function_text}
use Rattle.rules.specs.Opening.{after_read, same_index, rank, entry_of, body, walked}
use Rattle.rules.specs.Call.{Outcome, text, stopped, answer, within, whole, over_types, function_reading, type_reading as typeReading₀, size_reading, size_outcome, size_answer, Size, unsized}
use Rattle.rules.specs.Call as calls
use Rattle.rules.specs.Measure.{Measure, measured, unmeasured, measure_of, function_measure, type_measure}

-- A line `unfolding computing` opens every definition that a case computes with.
unfoldable computing : Unit {0}
unfolding scope_text function_id_text id_text id_alone number field size_width value_width width_of payload leaf zero_from name_end name indexes header behind passed tiled checked record_at walk_from look_from part primitives first_of bit names entries pointer_mode containing member_class modifier_of pointer_of procedure_of member_function_of argument_list_of enumerate_of array_of class_of union_of enumeration_of type_of primitive_of type_from exec is_open opening run need walk settings sized flagged is_in table behind_in behind_byte fitting is_whole reach shown_part shown_past shown_bytes name_at shown_at numbers_at match_name type_contents type_as_read table_of digit numeral hex decimal missing_mark unimplemented_mark function_name primitive_name primitive_size primitive_text worded class_text over_pointee sign levels ends_signed bracket brackets same_bytes unread marked value_of full_layout full_named full_or result procedure_result returned method_arguments procedure_arguments separated comma named_text type_text alone pointed aimed aimed_again modified_text method_text this_pointer method_list base_text element_text full_size layout_size named_size record_size size_step static_mark method_named procedure_named function_text after_read same_index rank entry_of body walked answer within whole over_types function_reading typeReading₀ size_reading size_outcome size_answer calls.function_outcome calls.type_outcome
computing = tt

-- Fields, records and a stream, as bytes.
abbrev u16 : ℕ → List ℕ
u16 n = n % 256 ∷ n / 256 % 256 ∷ []

abbrev u32 : ℕ → List ℕ
u32 n = u16 (n % 65536) ++ u16 (n / 65536)

abbrev rec₀ : ℕ → List ℕ → List ℕ
rec₀ kind fields = u16 (length fields + 2) ++ (u16 kind ++ fields)

abbrev stream : ℕ → List ℕ → List ℕ
stream end records = u32 0 ++ (u32 56 ++ (u32 0x1000 ++ (u32 end ++ (u32 (length records) ++ (replicate 36 0 ++ records)))))

-- "From 0x1000: argument list (0x74); procedure void of 0x1000; pointer to 0x1001; modifier const of 0x70; const pointer to 0x1003; struct A, size 4;
-- array of 0x1005, 12 bytes; array of 0x1006, 60 bytes; 0x1008 a pointer to 0x1008; 0x1009 a pointer to 0x2000. Pointers plain, size 8. End 0x100A."
abbrev pub small : List ℕ
small =
    stream 0x100A
    (rec₀ 0x1201 (u32 1 ++ u32 0x74)
    ++ (rec₀ 0x1008 (u32 3 ++ (u16 0 ++ (u16 1 ++ u32 0x1000)))
    ++ (rec₀ 0x1002 (u32 0x1001 ++ u32 0x1000c)
    ++ (rec₀ 0x1001 (u32 0x70 ++ u16 1)
    ++ (rec₀ 0x1002 (u32 0x1003 ++ u32 0x1040c)
    ++ (rec₀ 0x1505 (u16 0 ++ (u16 0 ++ (u32 0 ++ (u32 0 ++ (u32 0 ++ (u16 4 ++ (65 ∷ 0 ∷ [])))))))
    ++ (rec₀ 0x1503 (u32 0x1005 ++ (u32 0x23 ++ (u16 12 ++ (0 ∷ []))))
    ++ (rec₀ 0x1503 (u32 0x1006 ++ (u32 0x23 ++ (u16 60 ++ (0 ∷ []))))
    ++ (rec₀ 0x1002 (u32 0x1008 ++ u32 0x1000c)
    ++ rec₀ 0x1002 (u32 0x2000 ++ u32 0x1000c))))))))))

-- What a case shows: a text, a size, a measure, or a refusal by its number and detail.
pub data Shown : Type 0 where
  written : List ℕ → Shown
  size_is : ℕ → Shown
  measured_as : ℕ → ℕ → Shown
  refused_by : ℕ → ℕ → Shown

abbrev pub shown : Outcome → Shown
shown (text bs n) = written bs
shown (stopped f) = refused_by (number_of f) (detail_of f)

abbrev pub shown_size : Size → Shown
shown_size (calls.size_bytes n) = size_is n
shown_size (unsized f) = refused_by (number_of f) (detail_of f)

pub record Case : Type 0 where
  pub given : Shown
  pub wanted : Shown

infix 4 ◌⇒◌
abbrev pub ◌⇒◌ : Shown → Shown → Case
a ⇒ b = record { given = a; wanted = b }

-- A type under flags, with room for so many bytes; a function; all with pointer size 8.
abbrev type : ℕ → ℕ → ℕ → Shown
type flags index room = shown (calls.type_outcome flags 8 small index room)

abbrev function₀ : ℕ → String → ℕ → Shown
function₀ flags name index = shown (calls.function_outcome flags 8 small (bytes name) index 64)

abbrev pub cases : List Case
cases =
    -- 1
    (type 0 0x1002 13 ⇒ written (bytes "void (*)(int)")) ∷
    (type 0 0x1002 12 ⇒ refused_by 15 0) ∷
    -- 2
    (type 0 0x1004 64 ⇒ written (bytes "char const* const")) ∷
    -- 3
    (type 8 0x1004 64 ⇒ written (bytes "char const * const")) ∷
    -- 4
    (type 0 0x1007 64 ⇒ written (bytes "struct A[5][3]")) ∷
    (shown_size (size_outcome 8 small 0x1007) ⇒ size_is 60) ∷
    -- 5
    (type 0 0x1001 64 ⇒ written (bytes "void ()(int")) ∷
    -- 6
    (type 0 0x1008 64 ⇒ refused_by 12 0x1008) ∷
    -- 7
    (type 0 0x1009 64 ⇒ written (bytes "<missing type 0x2000>")) ∷
    -- 8
    (function₀ 0 "step" 0x1001 ⇒ written (bytes "void step(int)")) ∷
    (function₀ 32 "step" 0x1001 ⇒ written (bytes "void step")) ∷
    -- 9
    (function₀ 0 "step" 0x2000 ⇒ refused_by 8 0x2000) ∷
    -- 10
    (function₀ 0 "" 0 ⇒ written (bytes "<name omitted>")) ∷
    (function₀ 0 "" 0x74 ⇒ written []) ∷
    []

pub ten-cases : map (λ c. c.given) cases ≡ map (λ c. c.wanted) cases
unfolding computing
ten-cases = refl

-- Further cases, over tables: where each limit lies, what is opened before it is read, and what the misreadings of document 01 would give.
abbrev nth : List Record → ℕ → ℕ → Read Record
nth [] n i = bad (Missing i)
nth (r ∷ rs) zero i = good r
nth (r ∷ rs) (suc n) i = nth rs n i

abbrev primitive_at : Bool → ℕ → Read Record → Read Record
primitive_at true i r = good (primitive i 0)
primitive_at false i r = r

-- The records from 0x1000 on; below that void and int.
abbrev types_of : List Record → ℕ → Read Record
types_of rs i = primitive_at (eqb i 0x74 || eqb i 0x3) i (nth rs (i - 0x1000) i)

abbrev ids_of : List IdRecord → ℕ → ℕ → Read IdRecord
ids_of [] n i = bad (Missing i)
ids_of (r ∷ rs) zero i = good r
ids_of (r ∷ rs) (suc n) i = ids_of rs n i

abbrev tables : List Record → List IdRecord → Table
tables rs ds = record { types = types_of rs; end = 0x1000 + length rs; ids = λ i. ids_of ds (i - 0x1000) i }

-- So many records, each made from the index behind it, and then others.
abbrev row : ℕ → ℕ → (ℕ → Record) → List Record → List Record
row zero i f rs = rs
row (suc n) i f rs = f (i + 1) ∷ row n (i + 1) f rs

abbrev id_row : ℕ → ℕ → (ℕ → IdRecord) → List IdRecord → List IdRecord
id_row zero i f rs = rs
id_row (suc n) i f rs = f (i + 1) ∷ id_row n (i + 1) f rs

abbrev plain_marks : Bool → Attributes
plain_marks constant = record { constant = constant; volatile = false }

abbrev to : ℕ → Record
to i = pointer i mode.Pointer (plain_marks false) 8

abbrev const : ℕ → Record
const i = modifier i (plain_marks true)

abbrev struct : String → Bool → ℕ → Record
struct name forward size = named (class kind.Struct (record { forward = forward; size = size; name = bytes name; match = bytes name }))

-- A method without a this pointer; a member function of class 0x1000 with one.
abbrev plain_method : ℕ → ℕ → ℕ → Record
plain_method this owner list = method (record { result = 0x3; class = owner; this = this; constructor = false; list = list })

abbrev asked₀ : List Record → List IdRecord → Task → Outcome
asked₀ rs ds x = within 1000 (walked (settings 0 8) (tables rs ds) (held 0 []) x)

abbrev typed : List Record → Shown
typed rs = shown (asked₀ rs [] (by_itself 0x1000))

abbrev sized_as : List Record → ℕ → Shown
sized_as rs i = shown_size (size_answer (asked₀ rs [] (size_of i 0)))

abbrev identified : List Record → List IdRecord → Shown
identified rs ds = shown (asked₀ rs ds (id_of 0x1000))

-- A function id in the scope of the next, of a procedure of nothing with no result.
abbrev scoped : ℕ → List IdRecord → List IdRecord
scoped n ds = id_row n 0x1000 (λ i. function i 0x1000 (bytes "f")) ds

abbrev stars : ℕ → List ℕ
stars n = replicate n 42

abbrev repeated : ℕ → List ℕ → List ℕ
repeated zero bs = []
repeated (suc n) bs = bs ++ repeated n bs

abbrev pub further : List Case
further =
    -- 95 pointers in a row to int have a text, 96 give 13
    (typed (row 94 0x1000 to (to 0x74 ∷ [])) ⇒ written (bytes "int" ++ stars 95)) ∷
    (typed (row 95 0x1000 to (to 0x74 ∷ [])) ⇒ refused_by 13 0x74) ∷
    -- a pointer's target is opened before it is read: with 96 open a missing one is 13
    (typed (row 95 0x1000 to (to 0x9999 ∷ [])) ⇒ refused_by 13 0x9999) ∷
    -- an index by itself is read before it is opened: with 96 open a missing one is its mark
    (typed (row 95 0x1000 to (procedure 0x9999 false 0x9998 ∷ [])) ⇒ written (bytes "<missing type 0x9999> (" ++ (stars 95 ++ bytes ")(<missing type 0x9998>)"))) ∷
    -- 32 array levels pass, 33 give 14; array elements are not opened
    (typed (row 31 0x1000 (λ i. array i 4) (array 0x74 4 ∷ [])) ⇒ written (bytes "int" ++ repeated 32 (bytes "[1]"))) ∷
    (typed (row 32 0x1000 (λ i. array i 4) (array 0x74 4 ∷ [])) ⇒ refused_by 14 0x1020) ∷
    (typed (array 0x1000 4 ∷ []) ⇒ refused_by 14 0x1000) ∷
    -- 32 size steps pass, and what ends them counts unless it is a primitive or cannot be read
    (sized_as (row 31 0x1000 const (const 0x74 ∷ [])) 0x1000 ⇒ size_is 4) ∷
    (sized_as (row 32 0x1000 const (struct "A" false 4 ∷ [])) 0x1000 ⇒ refused_by 14 0x1020) ∷
    (sized_as (row 31 0x1000 const (const 0x9999 ∷ [])) 0x1000 ⇒ size_is 0) ∷
    (sized_as (const 0x1000 ∷ []) 0x1000 ⇒ refused_by 14 0x1000) ∷
    -- a forward reference looks behind its own index, and no further back
    (sized_as (struct "A" true 0 ∷ struct "B" false 9 ∷ struct "A" false 4 ∷ []) 0x1000 ⇒ size_is 4) ∷
    (sized_as (struct "A" false 4 ∷ struct "A" true 0 ∷ []) 0x1001 ⇒ size_is 0) ∷
    -- a missing record ends the innermost text alone
    (typed (to 0x1001 ∷ array 0x2000 12 ∷ []) ⇒ written (bytes "<missing type 0x2000>*")) ∷
    (typed (to 0x1001 ∷ const 0x1002 ∷ const 0x2000 ∷ []) ⇒ written (bytes "<missing type 0x2000> const*")) ∷
    (typed (const 0x1001 ∷ const 0x2000 ∷ []) ⇒ written (bytes "const <missing type 0x2000>")) ∷
    (typed (to 0x1001 ∷ const 0x2000 ∷ []) ⇒ written (bytes "<missing type 0x2000>")) ∷
    (typed (plain_method 0 0x1001 0x2000 ∷ []) ⇒ written (bytes "void ()<missing type 0x2000>")) ∷
    -- a method's list that is none is 9; a this pointer to another class is an argument
    (typed (plain_method 0 0x1001 0x1001 ∷ struct "A" false 4 ∷ []) ⇒ refused_by 9 0x1001) ∷
    (typed (plain_method 0x1003 0x1002 0x1001 ∷ arguments (0x74 ∷ []) ∷ struct "A" false 4 ∷ to 0x74 ∷ []) ⇒ written (bytes "void ()(int*,int)")) ∷
    (typed (plain_method 0x1003 0x1002 0x1001 ∷ arguments (0x74 ∷ []) ∷ struct "A" false 4 ∷ to 0x1002 ∷ []) ⇒ written (bytes "void ()(int)")) ∷
    -- a chain of 32 id scopes passes, 33 give 14; at the 33rd place what is missing is its mark
    (identified (procedure 0 false 0x1001 ∷ arguments [] ∷ []) (scoped 31 (function 0 0x1000 (bytes "f") ∷ [])) ⇒ written (repeated 31 (bytes "f()::") ++ bytes "f()")) ∷
    (identified (procedure 0 false 0x1001 ∷ arguments [] ∷ []) (scoped 32 (function 0 0x1000 (bytes "f") ∷ [])) ⇒ refused_by 14 0x1020) ∷
    (identified (procedure 0 false 0x1001 ∷ arguments [] ∷ []) (scoped 32 []) ⇒ written (bytes "<missing type 0x1020>::" ++ (repeated 31 (bytes "f()::") ++ bytes "f()"))) ∷
    []

pub further-cases : map (λ c. c.given) further ≡ map (λ c. c.wanted) further
unfolding computing
further-cases = refl

-- Document 02, Note 2: "Forward references are still matched by raw bytes". A struct of one byte that is only a forward reference, and one of two bytes: their
-- names, `A` and a letter of a code page each, are shown alike and are not the same.
abbrev named₀ : ℕ → ℕ → ℕ → List ℕ
named₀ properties size letter = rec₀ 0x1505 (u16 0 ++ (u16 properties ++ (u32 0 ++ (u32 0 ++ (u32 0 ++ (u16 size ++ (65 ∷ letter ∷ 0 ∷ [])))))))

abbrev alike : List ℕ
alike = stream 0x1002 (named₀ 0x80 1 0xE9 ++ named₀ 0 2 0xE8)

abbrev pub matched : List Case
matched =
    (shown (calls.type_outcome 0 8 alike 0x1000 64) ⇒ written (bytes "struct A" ++ (0xEF ∷ 0xBF ∷ 0xBD ∷ []))) ∷
    (shown (calls.type_outcome 0 8 alike 0x1001 64) ⇒ written (bytes "struct A" ++ (0xEF ∷ 0xBF ∷ 0xBD ∷ []))) ∷
    (shown_size (size_outcome 8 alike 0x1000) ⇒ size_is 1) ∷
    (shown_size (size_outcome 8 alike 0x1001) ⇒ size_is 2) ∷
    []

pub matched-by-bytes : map (λ c. c.given) matched ≡ map (λ c. c.wanted) matched
unfolding computing
matched-by-bytes = refl

-- Document 02, Note 4: length and openings. Each index that is opened stands beside its case.
abbrev pub shown_measure : Measure → Shown
shown_measure (measured n m) = measured_as n m
shown_measure (unmeasured f) = refused_by (number_of f) (detail_of f)

abbrev type_measured : ℕ → ℕ → Shown
type_measured flags index = shown_measure (type_measure flags 8 small index)

abbrev function_measured : ℕ → String → ℕ → Shown
function_measured flags name index = shown_measure (function_measure flags 8 small (bytes name) index)

abbrev measured_by : List Record → List IdRecord → Task → Shown
measured_by rs ds x = shown_measure (measure_of (asked₀ rs ds x))

abbrev pub counted : List Case
counted =
    -- void (*)(int): 0x1002, 0x1001, 0x3, 0x1000, 0x74
    (type_measured 0 0x1002 ⇒ measured_as 13 5) ∷
    -- char const* const: 0x1004, 0x1003, 0x70
    (type_measured 0 0x1004 ⇒ measured_as 17 3) ∷
    -- struct A[5][3]: 0x1007; array elements are not opened
    (type_measured 0 0x1007 ⇒ measured_as 14 1) ∷
    (type_measured 0 0x74 ⇒ measured_as 3 1) ∷
    (type_measured 0 0x1008 ⇒ refused_by 12 0x1008) ∷
    -- an index by itself that a mark replaces is not opened; a target is, before it is read: 0x1009, 0x2000
    (type_measured 0 0x2000 ⇒ measured_as 21 0) ∷
    (type_measured 0 0x1009 ⇒ measured_as 21 2) ∷
    -- void step(int): 0x1001, 0x3, 0x1000, 0x74; void step: 0x1001, 0x3
    (function_measured 0 "step" 0x1001 ⇒ measured_as 14 4) ∷
    (function_measured 32 "step" 0x1001 ⇒ measured_as 9 2) ∷
    -- function type 0 is not opened; one that is no function type is
    (function_measured 0 "step" 0 ⇒ measured_as 4 0) ∷
    (function_measured 0 "step" 0x74 ⇒ measured_as 4 1) ∷
    (function_measured 0 "" 0x74 ⇒ measured_as 0 1) ∷
    (function_measured 0 "step" 0x2000 ⇒ refused_by 8 0x2000) ∷
    -- a repeat counts each time: the list, 0x74, 0x74
    (measured_by (arguments (0x74 ∷ 0x74 ∷ []) ∷ []) [] (by_itself 0x1000) ⇒ measured_as 7 3) ∷
    -- a method without its list: itself, its result, the list
    (measured_by (plain_method 0 0x1001 0x2000 ∷ []) [] (by_itself 0x1000) ⇒ measured_as 28 3) ∷
    -- int*, int: the method, its result, its list, the this pointer and its target, the argument; its test opens nothing
    (measured_by (plain_method 0x1003 0x1002 0x1001 ∷ arguments (0x74 ∷ []) ∷ struct "A" false 4 ∷ to 0x74 ∷ []) [] (by_itself 0x1000) ⇒ measured_as 17 6) ∷
    -- an id is not opened, its function type and that of its scope are: f()::f(), each with its list
    (measured_by (procedure 0 false 0x1001 ∷ arguments [] ∷ []) (scoped 1 (function 0 0x1000 (bytes "f") ∷ [])) (id_of 0x1000) ⇒ measured_as 8 4) ∷
    []

pub counted-cases : map (λ c. c.given) counted ≡ map (λ c. c.wanted) counted
unfolding computing measure_of type_measure function_measure
counted-cases = refl
