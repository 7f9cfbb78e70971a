-- The laws of functions and ids: what each trace is, at the tests that lead to each return. Assumes nothing.
use Rattle.std.specs.Prelude.{Result, Ok, Err}
use Prim.Native.Nat.{ℕ, zero, suc, ◌+◌, ◌<◌, ◌≤◌}
use mathlib.Core.Path.{◌≡◌, refl, ap, sym, ◌∙◌}
use mathlib.Core.List.{List, [], ◌∷◌}
use mathlib.Core.Bool.{Bool, true, false, ◌||◌}
use lib.Dec.{eqb}
use lib.ListN.{length}
use native.Mathlib.Decide.{dec_lt}
use native.Mathlib.Numerals.{add-one}
use native.Mathlib.Omega.{arith}
use borrow.Author.Tests.{eq-eqb, ne_eqb, lt-leb, le-leb}
use denote.Enum.Declared.{tag_of}
use package.types.Run.{OneOf}
use Rattle.wire.specs.Text.{bytes}
use Rattle.streams.specs.declared.refusal.Refusal.{Refusal}
use Rattle.streams.specs.declared.refusal.Refusal.TheVariants.{
  FunctionIdIsNotProcedureType,
  MemberFunctionIdIsNotMemberFunctionType,
}
use Rattle.codeview.specs.Read.{read_id_in}
use Rattle.codeview.specs.declared.record.Entries.{Entries}
use Rattle.codeview.specs.declared.record.ProcedureType.{ProcedureType}
use Rattle.codeview.specs.declared.record.MemberFunctionType.{MemberFunctionType}
use Rattle.codeview.specs.declared.record.FunctionId.{FunctionId}
use Rattle.codeview.specs.declared.record.MemberFunctionId.{MemberFunctionId}
use Rattle.codeview.specs.declared.record.StringId.{StringId}
use Rattle.codeview.specs.declared.record.TypeData.{TypeData}
use Rattle.codeview.specs.declared.record.TypeData.TheVariants as type
use Rattle.codeview.specs.declared.record.IdData.{IdData}
use Rattle.codeview.specs.declared.record.IdData.TheVariants as id
use Rattle.codeview.specs.contracts.record.TypeData.{the_type}
use Rattle.codeview.proofs.Tags.{by-tag}
use Rattle.interpreter.specs.Trace.{Trace, tr, refused, halted, long, count, key, Held, held, opens, prefix, exec, write, refuse, seq}
use Rattle.interpreter.specs.Trace as trace
use Rattle.interpreter.proofs.Laws.{walk-long, walk-fresh}
use Rattle.wire.specs.declared.name.Name.{Name}
use Rattle.utf8.specs.Utf8.{shown}
use Rattle.rules.specs.Flags.{Settings}
use Rattle.rules.specs.Record.{Record, Method, good, bad, Table, procedure_or, method_or, type_contents, id_contents, id_as_read, name_at, shown_at, numbers_at}
use Rattle.rules.specs.Places.{table_by, Lent, table_in, read_near}
use Rattle.rules.specs.Text.{function_name, string_text, unhandled_scope}
use Rattle.rules.specs.Task.{Task, by_itself, function_of, id_of, function_id, member_id, Rule, inside, marked}
use Rattle.rules.specs.Types.{result, procedure_result, returned, method_arguments, procedure_arguments}
use Rattle.rules.specs.Methods.{static_mark, method_named, procedure_named}
use Rattle.rules.specs.Ids.{function_text, scope_text, function_id_text, member_id_text, string_entries, id_text, id_alone}
use Rattle.rules.specs.Opening.{after_read, same_index, entry_of, body, rank, walked, ruled}
use Rattle.rules.proofs.Rank.{ranked}
use Rattle.pen.specs.declared.Pen.{Pen}
use Rattle.pen.specs.Page.{Page, page, Wrote, read_pen, idle, unread_trace, writing, step, ◌⨾◌}
use Rattle.context.specs.declared.flags.Call.{Call}
use Rattle.context.specs.declared.seen.Way.TheVariants as way
use Rattle.context.specs.Context.{settings_of, keys_of, holding}
use Rattle.context.specs.Opening.{Opens, Writes}
use Rattle.context.proofs.Opening.{walk-on, stopped-then, type-open, type-bad, wrote-first}
use Rattle.leaf_writers.specs.Marks.{mark_trace}
use Rattle.leaf_writers.specs.Fragments.{static_text}
use Rattle.emit.specs.Walking.{method_of}
use Rattle.emit.proofs.Laws.{marked-is, returned-is, in-turn}
use Rattle.id_writers.specs.Ids.{further, method_start}

-- The tags of the kinds that are no procedure, no method, neither.
abbrev pub no_procedure : List ℕ
no_procedure = 0 ∷ 1 ∷ 2 ∷ 4 ∷ 5 ∷ 6 ∷ 7 ∷ 8 ∷ 9 ∷ 10 ∷ 11 ∷ []

abbrev pub no_method : List ℕ
no_method = 0 ∷ 1 ∷ 2 ∷ 3 ∷ 5 ∷ 6 ∷ 7 ∷ 8 ∷ 9 ∷ 10 ∷ 11 ∷ []

abbrev pub no_function : List ℕ
no_function = 0 ∷ 1 ∷ 2 ∷ 5 ∷ 6 ∷ 7 ∷ 8 ∷ 9 ∷ 10 ∷ 11 ∷ []

procedure-none : (s : List ℕ) (f : ℕ → Bool → ℕ → Rule) (z : Rule) (t : TypeData) → OneOf no_procedure (tag_of the_type t) → procedure_or (type_contents s t) f z ≡ z
unfolding type_contents
procedure-none s f z = by-tag no_procedure (λ t. procedure_or (type_contents s t) f z ≡ z) search

method-none : (s : List ℕ) (f : Method → Rule) (z : Rule) (t : TypeData) → OneOf no_method (tag_of the_type t) → method_or (type_contents s t) f z ≡ z
unfolding type_contents
method-none s f z = by-tag no_method (λ t. method_or (type_contents s t) f z ≡ z) search

function-none : (c : Settings) (s name : List ℕ) (t : TypeData) → OneOf no_function (tag_of the_type t) → function_text c name (type_contents s t) ≡ write name
unfolding type_contents function_text
function-none c s name = by-tag no_function (λ t. function_text c name (type_contents s t) ≡ write name) search

-- The parts of a signature, whatever is held.
module _ (c : Settings) (t : Table) (h : Held) where
  pub arguments-hidden : (list : ℕ) {b : Bool} → b ≡ c.no_arguments → b ≡ true → writing [] ≡ ruled c t h (procedure_arguments c list)
  unfolding ruled exec procedure_arguments
  arguments-hidden list e f = let k : c.no_arguments ≡ true = cc in rw k

  pub arguments-shown : (list : ℕ) {b : Bool} → b ≡ c.no_arguments → b ≡ false
      → writing (bytes "(") ⨾ walked c t h (by_itself list) ⨾ writing (bytes ")") ≡ ruled c t h (procedure_arguments c list)
  unfolding ruled exec procedure_arguments ◌⨾◌
  arguments-shown list e f = let k : c.no_arguments ≡ false = cc in rw k

  -- A method: what stands first, then what qualifies its name, the name, and the arguments.
  pub method-start : (m : Method) (none : Bool) → none ≡ c.no_return || m.constructor
      → writing (static_text c m.this) ⨾ ruled c t h (result c none m.result) ≡ ruled c t h (method_start c m)
  unfolding ruled exec static_mark static_text ◌⨾◌
  method-start m none e = ap (λ (x : Trace Refusal). writing (static_text c m.this) ⨾ x) (returned-is c t h none m.constructor m.result e)

  method-qualified : (m : Method) (before : Rule) (name : List ℕ)
      → ruled c t h (method_start c m) ⨾ ruled c t h before ⨾ writing (function_name name) ⨾ ruled c t h (method_arguments c m true)
      ≡ ruled c t h (method_named c m before name)
  unfolding ruled exec method_named ◌⨾◌
  method-qualified m before name =
      in-turn (ruled c t h (static_mark c m)) (ruled c t h (returned c (result c m.constructor m.result)))
      (ruled c t h before ⨾ writing (function_name name) ⨾ ruled c t h (method_arguments c m true))

  pub method-named : (m : Method) (name : List ℕ)
      → ruled c t h (method_start c m) ⨾ writing [] ⨾ writing (function_name name) ⨾ ruled c t h (method_arguments c m true)
      ≡ ruled c t h (method_named c m (write []) name)
  unfolding ruled exec
  method-named m name = method-qualified m (write []) name

  pub member-named : (m : Method) (parent : ℕ) (name : List ℕ)
      → ruled c t h (method_start c m) ⨾ walked c t h (by_itself parent) ⨾ writing (bytes "::") ⨾ writing (function_name name) ⨾ ruled c t h (method_arguments c m true)
      ≡ ruled c t h (method_named c m (seq (trace.call (by_itself parent)) (write (bytes "::"))) name)
  unfolding ruled exec ◌⨾◌
  member-named m parent name =
      ap (λ (x : Trace Refusal). ruled c t h (method_start c m) ⨾ x)
      (sym (in-turn (walked c t h (by_itself parent)) (writing (bytes "::")) (writing (function_name name) ⨾ ruled c t h (method_arguments c m true))))
      ∙ method-qualified m (seq (trace.call (by_itself parent)) (write (bytes "::"))) name

  -- A procedure: its result, what qualifies its name, the name, and the arguments.
  abbrev resulting : ℕ → Bool → Rule
  resulting r b = returned c (procedure_result c b r)

  pub result-is : (r : ℕ) (b v none : Bool) → v ≡ b || eqb r 0 → none ≡ c.no_return || v → ruled c t h (result c none r) ≡ ruled c t h (resulting r b)
  unfolding procedure_result
  result-is r b v none e f = let k : none ≡ c.no_return || (b || eqb r 0) = rw (← e) f in returned-is c t h none (b || eqb r 0) r k

  pub procedure-qualified : (r list : ℕ) (b : Bool) (before : Rule) (name : List ℕ)
      → ruled c t h (resulting r b) ⨾ ruled c t h before ⨾ writing (function_name name) ⨾ ruled c t h (procedure_arguments c list)
      ≡ ruled c t h (procedure_named c r b list before name)
  unfolding ruled exec procedure_named ◌⨾◌
  procedure-qualified r list b before name = refl

  pub procedure-named : (r list : ℕ) (b : Bool) (name : List ℕ)
      → ruled c t h (resulting r b) ⨾ writing [] ⨾ writing (function_name name) ⨾ ruled c t h (procedure_arguments c list)
      ≡ ruled c t h (procedure_named c r b list (write []) name)
  unfolding ruled exec
  procedure-named r list b name = procedure-qualified r list b (write []) name

  -- The scope of a function.
  pub scope-none : (scope : ℕ) → scope ≡ 0 → writing [] ≡ ruled c t h (scope_text c scope)
  unfolding ruled exec scope_text
  scope-none scope g = rw (eq-eqb scope 0 g)

  pub scope-some : (scope : ℕ) → (scope ≡ 0 → ⊥) → walked c t h (id_of scope) ⨾ writing (bytes "::") ≡ ruled c t h (scope_text c scope)
  unfolding ruled exec scope_text ◌⨾◌
  scope-some scope g = rw (ne_eqb scope 0 g)

module _ (s : List ℕ) (d : Lent) (call : Call) where
  abbrev c : Settings
  c = settings_of call

  abbrev t : Table
  t = table_in s d

  abbrev h : Held
  h = holding call []

  -- What is opened as the type of a function, in a list of its own, and then read.
  module _ (x : Task) (i : ℕ) (k : Record → Rule) (e : entry_of c t x ≡ opens (key 0 i)) (e₁ : body c t x ≡ inside (t.types i) k) {p q : Pen} {list l : List ℕ}
      (b : List ℕ) (z : Opens p list 96 way.Function i l q) (room : length list ≡ 96) where
    pub first-stopped : idle (read_pen q).stop ≡ true → Wrote (page b p) (walked c t h x) (page b q)
    first-stopped f = wrote-first (stopped-then s d call _ 96 x way.Function i e b z room (omega arith) f) room

    module _ (go : idle (read_pen q).stop ≡ false) {r : Result TypeData Refusal} (y : r ≡ read_near s d.near i) where
      pub first-open : {a : TypeData} {m : List ℕ} {j : Page} → r ≡ Ok a → Writes 95 l m (page b q) (λ o. ruled c t (holding call o) (k (type_contents s a))) j
          → Wrote (page b p) (walked c t h x) j
      first-open f v = wrote-first (type-open s d call _ 96 x way.Function i e k e₁ b z room (omega arith) go y f v) room

      pub first-bad : {f : Refusal} {j : Page} → r ≡ Err f → Wrote (page b q) (unread_trace f) j → Wrote (page b p) (walked c t h x) j
      first-bad f v = wrote-first (type-bad s d call _ 96 x way.Function i e k e₁ b z room (omega arith) go y f v) room

  -- A function.
  pub function-zero : (i : ℕ) (name : List ℕ) → i ≡ 0 → step ⨾ writing (function_name name) ≡ walked c t h (function_of i name)
  unfolding ruled exec entry_of body
  function-zero i name e = rw e (walk-on s d call [] (function_of 0 name) (write (function_name name)) refl refl)

  pub function-entry : (i : ℕ) (name : List ℕ) → (i ≡ 0 → ⊥) → entry_of c t (function_of i name) ≡ opens (key 0 i)
  unfolding entry_of
  function-entry zero name n = absurd (n refl)
  function-entry (suc i) name n = refl

  pub function-body : (i : ℕ) (name : List ℕ) → (i ≡ 0 → ⊥) → body c t (function_of i name) ≡ inside (t.types i) (function_text c name)
  unfolding body
  function-body zero name n = absurd (n refl)
  function-body (suc i) name n = refl

  -- A member function id, and a function id.
  module _ (of i : ℕ) (name : List ℕ) where
    pub member-entry : entry_of c t (member_id of i name) ≡ opens (key 0 i)
    unfolding entry_of
    member-entry = refl

    pub member-body : body c t (member_id of i name) ≡ inside (t.types i) (member_id_text c of i name)
    unfolding body
    member-body = refl

    pub function-id-entry : entry_of c t (function_id of i name) ≡ opens (key 0 i)
    unfolding entry_of
    function-id-entry = refl

    pub function-id-body : body c t (function_id of i name) ≡ inside (t.types i) (function_id_text c of i name)
    unfolding body
    function-id-body = refl

  -- An id: it is read, then counted in its chain, and starts a list of its own, so what is open before it does not matter.
  module _ (o : List ℕ) (i : ℕ) (r : (Result IdData Refusal)) (e : r ≡ read_id_in d.ids d.near.bounds d.near.places i) where
    id-good-read : (x : IdData) → r ≡ Ok x → t.ids i ≡ good (id_contents d.ids x)
    unfolding table_in table_by id_as_read
    id-good-read x f = let k : read_id_in d.ids d.near.bounds d.near.places i ≡ Ok x = cc in rw k

    id-bad-read : (f : Refusal) → r ≡ Err f → t.ids i ≡ bad f
    unfolding table_in table_by id_as_read
    id-bad-read f g = let k : read_id_in d.ids d.near.bounds d.near.places i ≡ Err f = cc in rw k

    pub id-bad : (f : Refusal) → r ≡ Err f → step ⨾ mark_trace f ≡ walked c t (holding call o) (id_of i)
    unfolding entry_of body after_read id_alone
    id-bad f g =
        let k : t.ids i ≡ bad f = id-bad-read f g in
        ap (λ (x : Trace Refusal). step ⨾ x) (marked-is c t (holding call o) f) ∙ walk-on s d call o (id_of i) (marked f) (rw k) (rw k)

    pub id-long : (x : IdData) → r ≡ Ok x → 32 ≤ call.chain
        → prefix [] [] (count 0 1) (tr [] (halted (long i)) [] (count 0 0)) ≡ walked c t (holding call o) (id_of i)
    unfolding walked entry_of after_read holding
    id-long x f l =
        let k : t.ids i ≡ good (id_contents d.ids x) = id-good-read x f in
        walk-long same_index (entry_of c t) (body c t) rank (ranked c t) (holding call o) (id_of i) i (rw k) (le-leb 32 call.chain l)

    id-fresh : (x : IdData) → r ≡ Ok x → call.chain < 32
        → step ⨾ ruled c t (held (suc call.chain) []) (id_text c (id_contents d.ids x)) ≡ walked c t (holding call o) (id_of i)
    unfolding walked ruled entry_of body after_read id_alone holding step ◌⨾◌
    id-fresh x f l =
        let k : t.ids i ≡ good (id_contents d.ids x) = id-good-read x f in
        let b : body c t (id_of i) ≡ id_text c (id_contents d.ids x) = rw k in
        rw (← b) (walk-fresh same_index (entry_of c t) (body c t) rank (ranked c t) (holding call o) (id_of i) i (rw k) (lt-leb 32 call.chain l))

  held_by : (o : List ℕ) (i : ℕ) (r : (Result IdData Refusal)) → r ≡ read_id_in d.ids d.near.bounds d.near.places i → Dec (call.chain < 32) → walked c t h (id_of i) ≡ walked c t (holding call o) (id_of i)
  held_by o i (Ok x) e (yes l) = sym (id-fresh [] i (Ok x) e x refl l) ∙ id-fresh o i (Ok x) e x refl l
  held_by o i (Ok x) e (no l) = sym (id-long [] i (Ok x) e x refl (omega arith)) ∙ id-long o i (Ok x) e x refl (omega arith)
  held_by o i (Err f) e l = sym (id-bad [] i (Err f) e f refl) ∙ id-bad o i (Err f) e f refl

  id-held : (o : List ℕ) (i : ℕ) → walked c t h (id_of i) ≡ walked c t (holding call o) (id_of i)
  id-held o i = held_by o i (read_id_in d.ids d.near.bounds d.near.places i) refl (dec_lt call.chain 32)

  scope-held : (o : List ℕ) (i : ℕ) → ruled c t h (scope_text c i) ≡ ruled c t (holding call o) (scope_text c i)
  scope-held o zero = sym (scope-none c t h 0 refl) ∙ scope-none c t (holding call o) 0 refl
  scope-held o (suc i) =
      let n : suc i ≡ 0 → ⊥ = λ e. cc in
      sym (scope-some c t h (suc i) n)
      ∙ ap (λ (x : Trace Refusal). x ⨾ writing (bytes "::")) (id-held o (suc i))
      ∙ scope-some c t (holding call o) (suc i) n

  -- What is done with a function type that was read, by its kind, whatever is open.
  module _ (o : List ℕ) (x : TypeData) where
    abbrev k : Held
    k = holding call o

    pub function-method : (name : List ℕ) (p : MemberFunctionType) → x ≡ type.MemberFunction p
        → ruled c t k (method_named c (method_of p) (write []) name) ≡ ruled c t k (function_text c name (type_contents s x))
    unfolding function_text type_contents
    function-method name p e = rw e

    pub function-procedure : (name : List ℕ) (p : ProcedureType) → x ≡ type.Procedure p
        → ruled c t k (procedure_named c p.result.0 p.constructor p.arguments.0 (write []) name) ≡ ruled c t k (function_text c name (type_contents s x))
    unfolding function_text type_contents
    function-procedure name p e = rw e

    pub function-other : (name : List ℕ) → OneOf no_function (tag_of the_type x) → writing name ≡ ruled c t k (function_text c name (type_contents s x))
    unfolding ruled exec
    function-other name n = rw (function-none c s name x n)

    module _ (i : ℕ) (name : List ℕ) where
      pub member-wrong : (parent : ℕ) → OneOf no_method (tag_of the_type x)
          → tr [] (refused (MemberFunctionIdIsNotMemberFunctionType i)) [] (count 0 0) ≡ ruled c t k (member_id_text c parent i name (type_contents s x))
      unfolding ruled exec member_id_text
      member-wrong parent n = rw (method-none s (λ m. method_named c m (seq (trace.call (by_itself parent)) (write (bytes "::"))) name) (refuse (MemberFunctionIdIsNotMemberFunctionType i)) x n)

      pub member_right : (parent : ℕ) (p : MemberFunctionType) (bs : List ℕ) → x ≡ type.MemberFunction p → shown bs ≡ name
          → ruled c t k (method_named c (method_of p) (seq (trace.call (by_itself parent)) (write (bytes "::"))) (shown bs)) ≡ ruled c t k (member_id_text c parent i name (type_contents s x))
      unfolding member_id_text type_contents
      member_right parent p bs e f = rw (e, f)

      pub function-id-wrong : (scope : ℕ) → OneOf no_procedure (tag_of the_type x)
          → tr [] (refused (FunctionIdIsNotProcedureType i)) [] (count 0 0) ≡ ruled c t k (function_id_text c scope i name (type_contents s x))
      unfolding ruled exec function_id_text
      function-id-wrong scope n = rw (procedure-none s (λ u b list. procedure_named c u b list (scope_text c scope) name) (refuse (FunctionIdIsNotProcedureType i)) x n)

      pub function-id-right : (scope : ℕ) (p : ProcedureType) (bs : List ℕ) → x ≡ type.Procedure p → shown bs ≡ name
          → ruled c t k (returned c (procedure_result c p.constructor p.result.0)) ⨾ ruled c t h (scope_text c scope) ⨾ writing (function_name (shown bs))
          ⨾ ruled c t k (procedure_arguments c p.arguments.0)
          ≡ ruled c t k (function_id_text c scope i name (type_contents s x))
      unfolding function_id_text type_contents
      function-id-right scope p bs e f =
          rw (e, f, scope-held o scope) (procedure-qualified c t k p.result.0 p.arguments.0 p.constructor (scope_text c scope) name)

-- The id behind its own count: what the writers do for the call with one id more.
inner-is : (s : List ℕ) (d : Lent) (call k : Call) (p : Settings → Rule) → k ≡ further call
    → ruled (settings_of k) (table_in s d) (holding k []) (p (settings_of k)) ≡ ruled (settings_of call) (table_in s d) (held (suc call.chain) []) (p (settings_of call))
unfolding settings_of holding keys_of
inner-is s d call k p e = let a : call.chain + 1 ≡ suc call.chain = add-one call.chain in rw (e, a)

module _ (s : List ℕ) (d : Lent) (call k : Call) (i : ℕ) (r : (Result IdData Refusal)) (x : IdData) (e : r ≡ read_id_in d.ids d.near.bounds d.near.places i) (f : r ≡ Ok x) (l : call.chain < 32)
    (g : k ≡ further call) where
  id-in : step ⨾ ruled (settings_of k) (table_in s d) (holding k []) (id_text (settings_of k) (id_contents d.ids x)) ≡ walked (settings_of call) (table_in s d) (holding call []) (id_of i)
  id-in =
      ap (λ (x : Trace Refusal). step ⨾ x) (inner-is s d call k (λ c. id_text c (id_contents d.ids x)) g)
      ∙ id-fresh s d call [] i r e x f l

  pub id-by : {y : Trace Refusal} → y ≡ ruled (settings_of k) (table_in s d) (holding k []) (id_text (settings_of k) (id_contents d.ids x))
      → step ⨾ y ≡ walked (settings_of call) (table_in s d) (holding call []) (id_of i)
  id-by a = ap (λ (x : Trace Refusal). step ⨾ x) a ∙ id-in

-- The bytes of a record's name are shown.
pub name-shown : (s bs : List ℕ) (n : Name) → bs ≡ name_at s n → shown bs ≡ shown_at s n
unfolding shown_at
name-shown s bs n e = rw e refl

-- An id that was read, by its kind.
module _ (s : List ℕ) (d : Lent) (call : Call) (x : IdData) where
  abbrev read : Trace Refusal
  read = ruled (settings_of call) (table_in s d) (holding call []) (id_text (settings_of call) (id_contents d.ids x))

  pub id-function : (w : FunctionId) → x ≡ id.Function w
      → walked (settings_of call) (table_in s d) (holding call []) (function_id w.scope.0 w.function.0 (shown_at d.ids w.name)) ≡ read
  unfolding ruled exec id_text id_contents
  id-function w e = rw e

  pub id-member : (w : MemberFunctionId) → x ≡ id.MemberFunction w
      → walked (settings_of call) (table_in s d) (holding call []) (member_id w.parent.0 w.function.0 (shown_at d.ids w.name)) ≡ read
  unfolding ruled exec id_text id_contents
  id-member w e = rw e

  pub id-list : (w : Entries) → x ≡ id.StringList w
      → writing (bytes "\"") ⨾ ruled (settings_of call) (table_in s d) (holding call []) (string_entries (settings_of call) false (numbers_at d.ids w.start w.count)) ⨾ writing (bytes "\"")
      ≡ read
  unfolding ruled exec id_text id_contents ◌⨾◌
  id-list w e = rw e

  pub id-string : (w : StringId) (bs : List ℕ) → x ≡ id.String w → bs ≡ name_at d.ids w.name → writing (string_text (shown bs)) ≡ read
  unfolding ruled exec id_text id_contents shown_at
  id-string w bs e f = rw (e, f)

  pub id-unhandled : (n : ℕ) → x ≡ id.Unhandled n → writing (unhandled_scope n) ≡ read
  unfolding ruled exec id_text id_contents
  id-unhandled n e = rw e
