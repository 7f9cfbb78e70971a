-- The text of every id and type call is well-formed UTF-8, and that of a function call where its name is (document 02, Note 2): the names of the table are
-- shown, and all else that the rules write is ASCII. Assumes nothing.
use Prim.Native.Nat.{ℕ, zero, suc}
use native.Mathlib.Omega.{arith}
use mathlib.Core.Path.{◌≡◌, refl, subst}
use mathlib.Core.Bool.{Bool, true, false, ◌&&◌, ◌||◌, not}
use mathlib.Core.List.{List, [], ◌∷◌}
use lib.Dec.{eqb, leb, ltb}
use lib.ListN.{length}
use Rattle.std.specs.Prelude.{Result, Ok, Err}
use Rattle.wire.specs.Field.{pick}
use Rattle.wire.specs.Text.{bytes}
use Rattle.wire.specs.declared.name.Name.{Name}
use Rattle.streams.specs.Refusal.{number_of, detail_of}
use Rattle.streams.specs.declared.refusal.Refusal.{Refusal}
use Rattle.streams.specs.declared.refusal.Refusal.TheVariants.{NoRoom}
use Rattle.streams.specs.declared.refusal.StreamKind.TheVariants.{Types, Ids}
use Rattle.streams.specs.declared.stream.Stream.{Stream}
use Rattle.streams.specs.Stream.{none, checked}
use Rattle.codeview.specs.Read.{read_type, read_id}
use Rattle.codeview.specs.declared.record.TypeData.{TypeData}
use Rattle.codeview.specs.declared.record.TypeData.TheVariants as type
use Rattle.codeview.specs.declared.record.IdData.{IdData}
use Rattle.codeview.specs.declared.record.IdData.TheVariants as id
use Rattle.utf8.specs.Utf8.{WellFormed, empty}
use Rattle.utf8.proofs.Shown.{shown-well, all_ascii, well-append, well-ascii}
use Rattle.interpreter.specs.Trace.{done, missing, refused, halted, again, deep, long, unfinished, End, Trace, tr, write, held, need, walk, strict}
use Rattle.interpreter.proofs.Written.{Says, Holds, written}
use Rattle.rules.specs.Flags.{Settings, settings, sized, flagged}
use Rattle.rules.specs.Record.{Method, Named, class, union, enumeration, enumerate, kind_only, Record, pointer, modifier, procedure, method, arguments, array, primitive, named, IdRecord, function, member_function, strings, string, id_kind_only, Read, good, bad, Table, name_at, shown_at, type_contents, id_contents, type_as_read, id_as_read, table_of}
use Rattle.rules.specs.Text.{Level, ends_signed}
use Rattle.rules.specs.Task.{Task, by_itself, function_of, target, target_of_modifier, modified, list_of, element, size_of, id_of, function_id, member_id, Rule, unless, texted, unread, marked, inside, separated}
use Rattle.rules.specs.Types.{result, procedure_result, returned, method_arguments, procedure_arguments, comma, named_text, type_text, alone}
use Rattle.rules.specs.Pointers.{pointed, aimed, aimed_again, modified_text}
use Rattle.rules.specs.Methods.{method_text, this_pointer, method_list, static_mark, method_named, procedure_named}
use Rattle.rules.specs.Arrays.{base_text, element_text}
use Rattle.rules.specs.Ids.{function_text, scope_text, function_id_text, member_id_text, id_text, id_alone}
use Rattle.rules.specs.Opening.{same_index, entry_of, body, rank, walked}
use Rattle.rules.specs.Call.{text, stopped, answer, within, refusal, whole, over_types, over_ids, function_reading, id_reading, type_reading, strictly, function_outcome, id_outcome, type_outcome}
use Rattle.rules.proofs.ByKind.{either, pointer-or, modifier-or, procedure-or, method-or, arguments-or, array-or, primitive-or}
use Rattle.rules.proofs.WellTexts.{missing-well, unimplemented-well, unhandled-type-well, unhandled-scope-well, function-name-well, string-well, class-well, union-well, enum-well, enumerate-well, primitive-well, levels-well, brackets-well}

-- Records, readings, tables and tasks whose names are well-formed. A size step writes a number that is not shown; it is only asked for.
unfoldable NamedWell : Named → Type 0
NamedWell (class k l) = WellFormed l.name
NamedWell (union l) = WellFormed l.name
NamedWell (enumeration u name) = WellFormed name
NamedWell (enumerate w name) = WellFormed name
NamedWell (kind_only k) = Unit {0}

unfoldable RecordWell : Record → Type 0
RecordWell (pointer u m a z) = Unit {0}
RecordWell (modifier u a) = Unit {0}
RecordWell (procedure r b l) = Unit {0}
RecordWell (method m) = Unit {0}
RecordWell (arguments l) = Unit {0}
RecordWell (array e z) = Unit {0}
RecordWell (primitive k n) = Unit {0}
RecordWell (named x) = NamedWell x

unfoldable IdWell : IdRecord → Type 0
IdWell (function scope u name) = WellFormed name
IdWell (member_function parent u name) = WellFormed name
IdWell (strings l) = Unit {0}
IdWell (string name) = WellFormed name
IdWell (id_kind_only k) = Unit {0}

unfoldable ReadWell : {A : Type 0} → (A → Type 0) → Read A → Type 0
ReadWell W (good a) = W a
ReadWell W (bad f) = Unit {0}

record TableWell (t : Table) : Type 0 where
  types : (i : ℕ) → ReadWell RecordWell (t.types i)
  ids : (i : ℕ) → ReadWell IdWell (t.ids i)

unfoldable TaskWell : Task → Type 0
TaskWell (by_itself i) = Unit {0}
TaskWell (function_of i name) = WellFormed name
TaskWell (target i ls) = Unit {0}
TaskWell (target_of_modifier i ls) = Unit {0}
TaskWell (modified i b) = Unit {0}
TaskWell (list_of m b) = Unit {0}
TaskWell (element i zs) = Unit {0}
TaskWell (size_of i n) = ⊥
TaskWell (id_of i) = Unit {0}
TaskWell (function_id scope i name) = WellFormed name
TaskWell (member_id parent i name) = WellFormed name

abbrev S : Rule → Type 0
S p = Says WellFormed TaskWell p

-- Both, where a rule has one part after another.
infixr 20 ◌and◌
◌and◌ : {A B : Type 0} → A → B → A × B
a and b = (a, b)

-- The parts that rules are made of.
says-unless : (b : Bool) (p : Rule) → S p → S (unless b p)
unfolding Says
says-unless b p h = either S b (write []) p empty h

says-unread : (f : Refusal) → S (unread f)
unfolding Says unread
says-unread f = either S (eqb (number_of f) 8) _ _ tt tt

says-marked : (f : Refusal) → S (marked f)
unfolding Says marked
says-marked f = either S (eqb (number_of f) 8) _ _ (missing-well (detail_of f)) (either S (eqb (number_of f) 7) _ _ (unimplemented-well (detail_of f)) tt)

says-texted : (p : Rule) → S p → S (texted p)
unfolding Says
says-texted p h = (h, missing-well)

says-inside : {A : Type 0} (W : A → Type 0) (r : Read A) (f : A → Rule) → ReadWell W r → ((a : A) → W a → S (f a)) → S (inside r f)
unfolding ReadWell
says-inside W (good a) f h k = k a h
says-inside W (bad e) f h k = says-unread e

says-separated : (sep : List ℕ) (b : Bool) (l : List ℕ) → WellFormed sep → S (separated sep b l)
unfolding Says separated TaskWell
says-separated sep b [] w = empty
says-separated sep b (a ∷ al) w = says-pick₀ b and tt and says-separated sep true al w
  where
    says-pick₀ : (b : Bool) → WellFormed (pick b sep [])
    says-pick₀ true = w
    says-pick₀ false = empty

picked : (b : Bool) (a : List ℕ) → all_ascii a ≡ true → WellFormed (pick b a [])
picked true a h = well-ascii a h
picked false a h = empty

-- The rules.
module _ (c : Settings) where
  says-result : (b : Bool) (i : ℕ) → S (result c b i)
  unfolding Says TaskWell result all_ascii
  says-result b i = says-unless b _ (tt, well-ascii (bytes " ") refl)

  says-procedure-result : (b : Bool) (i : ℕ) → S (procedure_result c b i)
  unfolding procedure_result
  says-procedure-result b i = says-result (b || eqb i 0) i

  says-returned : (p : Rule) → S p → S (returned c p)
  unfolding returned
  says-returned p h = says-unless c.no_return p h

  says-method-arguments : (m : Method) (b : Bool) → S (method_arguments c m b)
  unfolding Says TaskWell method_arguments
  says-method-arguments m b = says-unless c.no_arguments _ tt

  says-procedure-arguments : (l : ℕ) → S (procedure_arguments c l)
  unfolding Says TaskWell procedure_arguments all_ascii
  says-procedure-arguments l = says-unless c.no_arguments _ (well-ascii (bytes "(") refl and tt and well-ascii (bytes ")") refl)

  comma-well : WellFormed (comma c)
  unfolding comma all_ascii
  comma-well = by c.space_comma
    where
      by : (b : Bool) → WellFormed (pick b (bytes ", ") (bytes ","))
      by true = well-ascii (bytes ", ") refl
      by false = well-ascii (bytes ",") refl

  named-well : (x : Named) → NamedWell x → WellFormed (named_text c x)
  unfolding NamedWell named_text
  named-well (class k l) w = class-well c k l.name w
  named-well (union l) w = union-well c l.name w
  named-well (enumeration u name) w = enum-well c name w
  named-well (enumerate n name) w = enumerate-well c name w
  named-well (kind_only k) w = unhandled-type-well k

  says-type : (r : Record) → RecordWell r → S (type_text c r)
  unfolding Says TaskWell RecordWell type_text all_ascii
  says-type (pointer u m a z) w = tt
  says-type (modifier u a) w = tt
  says-type (procedure r b l) w = says-returned _ (says-procedure-result b r) and well-ascii (bytes "()(") refl and tt
  says-type (method m) w = says-returned _ (says-result m.constructor m.result) and well-ascii (bytes "()") refl and says-method-arguments m false
  says-type (arguments l) w = says-separated (comma c) false l comma-well
  says-type (array e z) w = tt
  says-type (primitive k n) w = primitive-well c false k n
  says-type (named x) w = named-well x w

  says-alone : (r : Read Record) → ReadWell RecordWell r → S (alone c r)
  unfolding ReadWell alone
  says-alone (good r) w = says-texted (type_text c r) (says-type r w)
  says-alone (bad f) w = says-marked f

  says-pointed : (ls : List Level) (r : Record) → RecordWell r → S (pointed c ls r)
  unfolding Says TaskWell pointed all_ascii
  says-pointed ls r w =
      method-or S r _ _
      (λ m. says-result m.constructor m.result and well-ascii (bytes "(") refl and tt and levels-well c false false ls and well-ascii (bytes ")") refl and says-method-arguments m false)
      (procedure-or S r _ _
      (λ u b l. says-procedure-result b u and well-ascii (bytes "(") refl and levels-well c false false ls and well-ascii (bytes ")") refl and well-ascii (bytes "(") refl and tt and well-ascii (bytes ")") refl)
      (says-texted (type_text c r) (says-type r w), λ bs. levels-well c true (ends_signed bs) ls))

  says-aimed : (ls : List Level) (r : Record) → RecordWell r → S (aimed c ls r)
  unfolding Says TaskWell aimed
  says-aimed ls r w = pointer-or S r _ _ (λ u m a n. tt) (modifier-or S r _ _ (λ u a. tt) (says-pointed ls r w))

  says-aimed-again : (ls : List Level) (r : Record) → RecordWell r → S (aimed_again c ls r)
  unfolding Says TaskWell aimed_again
  says-aimed-again ls r w = pointer-or S r _ _ (λ u m a n. tt) (says-pointed ls r w)

  says-modified : (b : Bool) (r : Record) → RecordWell r → S (modified_text c b r)
  unfolding Says TaskWell modified_text all_ascii
  says-modified b r w =
      pointer-or S r _ _ (λ u m a n. tt)
      (primitive-or S r _ _ (λ k n. primitive-well c b k n) (picked b (bytes "const ") refl, says-texted (type_text c r) (says-type r w)))

  says-method-text : (m : Method) (closes : Bool) (l : List ℕ) (extra constant : Bool) → S (method_text c m closes l extra constant)
  unfolding Says TaskWell method_text all_ascii
  says-method-text m closes l extra constant =
      well-ascii (bytes "(") refl
      and either S extra _ _ tt empty
      and says-separated (comma c) extra l comma-well
      and well-ascii (bytes ")") refl
      and picked (closes && constant) (bytes " const") refl

  says-named-method : (m : Method) (p : Rule) (name : List ℕ) → S p → WellFormed name → S (method_named c m p name)
  unfolding Says TaskWell method_named static_mark all_ascii
  says-named-method m p name h w =
      picked (eqb m.this 0 && not c.no_static) (bytes "static ") refl
      and says-returned _ (says-result m.constructor m.result)
      and h
      and function-name-well name w
      and says-method-arguments m true

  says-named-procedure : (r : ℕ) (b : Bool) (l : ℕ) (p : Rule) (name : List ℕ) → S p → WellFormed name → S (procedure_named c r b l p name)
  unfolding Says procedure_named
  says-named-procedure r b l p name h w = says-returned _ (says-procedure-result b r) and h and function-name-well name w and says-procedure-arguments l

  says-function : (name : List ℕ) (r : Record) → WellFormed name → S (function_text c name r)
  unfolding Says function_text
  says-function name r w = method-or S r _ _ (λ m. says-named-method m (write []) name empty w) (procedure-or S r _ _ (λ u b l. says-named-procedure u b l (write []) name empty w) w)

  says-scope : (i : ℕ) → S (scope_text c i)
  unfolding Says TaskWell scope_text all_ascii
  says-scope i = says-unless (eqb i 0) _ (tt, well-ascii (bytes "::") refl)

  says-function-id : (scope u : ℕ) (name : List ℕ) (r : Record) → WellFormed name → S (function_id_text c scope u name r)
  unfolding Says function_id_text
  says-function-id scope u name r w = procedure-or S r _ _ (λ v b l. says-named-procedure v b l (scope_text c scope) name (says-scope scope) w) tt

  says-member-id : (parent u : ℕ) (name : List ℕ) (r : Record) → WellFormed name → S (member_id_text c parent u name r)
  unfolding Says TaskWell member_id_text all_ascii
  says-member-id parent u name r w = method-or S r _ _ (λ m. says-named-method m _ name (tt, well-ascii (bytes "::") refl) w) tt

  says-id : (r : Read IdRecord) → ReadWell IdWell r → S (id_alone c r)
  unfolding Says TaskWell ReadWell IdWell id_alone id_text all_ascii
  says-id (good (function scope u name)) w = w
  says-id (good (member_function parent u name)) w = w
  says-id (good (strings l)) w = well-ascii (bytes "\"") refl and says-separated (bytes "\" \"") false l (well-ascii (bytes "\" \"") refl) and well-ascii (bytes "\"") refl
  says-id (good (string name)) w = string-well name w
  says-id (good (id_kind_only k)) w = unhandled-scope-well k
  says-id (bad f) w = says-marked f

  module _ (t : Table) (w : TableWell t) where
    says-this : (m : Method) (k : Bool → Bool → Rule) → ((e x : Bool) → S (k e x)) → S (this_pointer c t m k)
    unfolding this_pointer
    says-this m k h =
        either S (eqb m.this 0) (k false false) _ (h false false)
        (says-inside RecordWell (t.types m.this) _ (w.types m.this)
        (λ r v. pointer-or S r _ _
        (λ u n a z. either S (eqb u m.class) (k false false) _ (h false false)
        (says-inside RecordWell (t.types u) _ (w.types u)
        (λ q v. modifier-or S q _ _ (λ x b. either S (eqb x m.class) _ _ (h false b.constant) (h true false)) (h true false))))
        (h true false)))

    says-list : (m : Method) (closes : Bool) (r : Record) → S (method_list c t m closes r)
    unfolding Says method_list
    says-list m closes r = arguments-or S r _ _ (λ l. says-this m _ (λ e x. says-method-text m closes l e x)) tt

    says-element : (i : ℕ) (zs : List ℕ) (r : Record) → RecordWell r → S (element_text c t i zs r)
    unfolding Says TaskWell element_text base_text
    says-element i zs r v = array-or S r _ _ (λ e n. tt) (λ bs. (says-texted (type_text c r) (says-type r v), brackets-well _ zs))

    says-body : (x : Task) → TaskWell x → S (body c t x)
    unfolding Says TaskWell body
    says-body (by_itself i) v = says-alone (t.types i) (w.types i)
    says-body (function_of zero name) v = function-name-well name v
    says-body (function_of (suc i) name) v = says-inside RecordWell (t.types (suc i)) _ (w.types (suc i)) (λ r u. says-function name r v)
    says-body (target i ls) v = says-inside RecordWell (t.types i) _ (w.types i) (says-aimed ls)
    says-body (target_of_modifier i ls) v = says-inside RecordWell (t.types i) _ (w.types i) (says-aimed-again ls)
    says-body (modified i b) v = says-inside RecordWell (t.types i) _ (w.types i) (says-modified b)
    says-body (list_of m b) v = says-inside RecordWell (t.types m.list) _ (w.types m.list) (λ r u. says-list m b r)
    says-body (element i zs) v = says-inside RecordWell (t.types i) _ (w.types i) (says-element i zs)
    says-body (size_of i n) v = absurd v
    says-body (id_of i) v = says-id (t.ids i) (w.ids i)
    says-body (function_id scope i name) v = says-inside RecordWell (t.types i) _ (w.types i) (λ r u. says-function-id scope i name r v)
    says-body (member_id parent i name) v = says-inside RecordWell (t.types i) _ (w.types i) (λ r u. says-member-id parent i name r v)

    walk-well : (x : Task) → TaskWell x → Holds WellFormed TaskWell (strictly c t x)
    unfolding walked walk
    walk-well x v = written WellFormed TaskWell empty (λ a b h k. well-append h k) same_index (entry_of c t) (body c t) says-body strict (suc (need rank (held 0 []) x)) (held 0 []) x v

-- The table of two streams.
shown-at : (s : List ℕ) (n : Name) → WellFormed (shown_at s n)
unfolding shown_at
shown-at s n = shown-well (name_at s n)

contents-well : (s : List ℕ) (d : TypeData) → RecordWell (type_contents s d)
unfolding RecordWell NamedWell type_contents
contents-well s (type.Primitive p) = tt
contents-well s (type.Modifier m) = tt
contents-well s (type.Pointer p) = tt
contents-well s (type.Procedure p) = tt
contents-well s (type.MemberFunction m) = tt
contents-well s (type.ArgumentList e) = tt
contents-well s (type.Enumerate e) = shown-at s e.name
contents-well s (type.Array a) = tt
contents-well s (type.Class c) = shown-at s c.name
contents-well s (type.Union u) = shown-at s u.name
contents-well s (type.Enumeration e) = shown-at s e.name
contents-well s (type.Unhandled k) = tt

id-contents-well : (s : List ℕ) (d : IdData) → IdWell (id_contents s d)
unfolding IdWell id_contents
id-contents-well s (id.Function f) = shown-at s f.name
id-contents-well s (id.MemberFunction m) = shown-at s m.name
id-contents-well s (id.StringList e) = tt
id-contents-well s (id.String t) = shown-at s t.name
id-contents-well s (id.Unhandled k) = tt

read-well : (s : List ℕ) (r : Result TypeData Refusal) → ReadWell RecordWell (type_as_read s r)
unfolding ReadWell type_as_read
read-well s (Ok d) = contents-well s d
read-well s (Err f) = tt

id-read-well : (s : List ℕ) (r : Result IdData Refusal) → ReadWell IdWell (id_as_read s r)
unfolding ReadWell id_as_read
id-read-well s (Ok d) = id-contents-well s d
id-read-well s (Err f) = tt

table-well : (s : List ℕ) (t : Stream) (d : List ℕ) (u : Stream) → TableWell (table_of s t d u)
unfolding table_of
table-well s t d u = record { types = λ i. read-well s (read_type s t i); ids = λ i. id-read-well d (read_id d u i) }

-- The readings of the calls: their checks, their streams, the walk.
abbrev H : Trace Refusal → Type 0
H t = Holds WellFormed TaskWell t

pick-well : (b : Bool) (t u : Trace Refusal) → H t → H u → H (pick b t u)
pick-well true t u h k = h
pick-well false t u h k = k

checks-well : (flags size : ℕ) (t : Trace Refusal) → H t → H (flagged flags (sized size t refusal) refusal)
unfolding flagged sized
checks-well flags size t h =
    pick-well (ltb flags 64) _ _ (pick-well (eqb size 4 || (eqb size 8 || eqb size 16)) t _ h empty) empty

whole-well : (r : Result Stream Refusal) (k : Stream → Trace Refusal) → ((t : Stream) → H (k t)) → H (whole r k)
unfolding whole
whole-well (Ok t) k h = h t
whole-well (Err f) k h = empty

types-well : (flags size : ℕ) (types : List ℕ) (x : Task) → TaskWell x → H (over_types strictly flags size types x)
unfolding over_types
types-well flags size types x w =
    checks-well flags size _ (whole-well (checked Types types) _ (λ t. walk-well (settings flags size) (table_of types t [] none) (table-well types t [] none) x w))

ids-well : (flags size : ℕ) (types ids : List ℕ) (x : Task) → TaskWell x → H (over_ids strictly flags size types ids x)
unfolding over_ids
ids-well flags size types ids x w =
    checks-well flags size _
    (whole-well (checked Types types) _
    (λ t. whole-well (checked Ids ids) _ (λ u. walk-well (settings flags size) (table_of types t ids u) (table-well types t ids u) x w)))

-- A text is what was written.
within-well : (room : ℕ) (t : Trace Refusal) → H t → (bs : List ℕ) (n : ℕ) → within room t ≡ text bs n → WellFormed bs
unfolding within answer
within-well room (tr cs e ns c) h bs n f = by (leb (length cs) room) e f
  where
    by : (b : Bool) (e : End Refusal) → pick b (answer cs c.opened e) (stopped NoRoom) ≡ text bs n → WellFormed bs
    by true done f = let g : cs ≡ bs = cc in subst WellFormed g h
    by true (missing i) f = absurd (let z : ◌≡◌ {A = ℕ} 0 1 = cc in omega arith)
    by true (refused r) f = absurd (let z : ◌≡◌ {A = ℕ} 0 1 = cc in omega arith)
    by true (halted (again i)) f = absurd (let z : ◌≡◌ {A = ℕ} 0 1 = cc in omega arith)
    by true (halted (deep i)) f = absurd (let z : ◌≡◌ {A = ℕ} 0 1 = cc in omega arith)
    by true (halted (long i)) f = absurd (let z : ◌≡◌ {A = ℕ} 0 1 = cc in omega arith)
    by true unfinished f = absurd (let z : ◌≡◌ {A = ℕ} 0 1 = cc in omega arith)
    by false e f = absurd (let z : ◌≡◌ {A = ℕ} 0 1 = cc in omega arith)

pub type-text-well : (flags size : ℕ) (types : List ℕ) (index room : ℕ) (bs : List ℕ) (n : ℕ) → type_outcome flags size types index room ≡ text bs n → WellFormed bs
unfolding type_outcome type_reading TaskWell
type-text-well flags size types index room bs n e = within-well room _ (types-well flags size types (by_itself index) tt) bs n e

pub id-text-well : (flags size : ℕ) (types ids : List ℕ) (index room : ℕ) (bs : List ℕ) (n : ℕ) → id_outcome flags size types ids index room ≡ text bs n → WellFormed bs
unfolding id_outcome id_reading TaskWell
id-text-well flags size types ids index room bs n e = within-well room _ (ids-well flags size types ids (id_of index) tt) bs n e

pub function-text-well : (flags size : ℕ) (types name : List ℕ) (index room : ℕ) (bs : List ℕ) (n : ℕ) → WellFormed name → function_outcome flags size types name index room ≡ text bs n → WellFormed bs
unfolding function_outcome function_reading TaskWell
function-text-well flags size types name index room bs n w e = within-well room _ (types-well flags size types (function_of index name) w) bs n e
