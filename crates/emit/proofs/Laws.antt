-- The laws of the strict walk: what each writer's trace is, at the tests that lead to each of its returns. Assumes nothing.
use Rattle.std.specs.Prelude.{Option, Some, None, Result, Ok, Err}
use Prim.Native.Nat.{ℕ, zero, suc, ◌+◌, ◌-◌, ◌*◌, ◌<◌, ◌≤◌}
use mathlib.Core.Path.{◌≡◌, refl, ap, sym, ◌∙◌}
use mathlib.Core.List.{List, [], ◌∷◌, ◌++◌, append_assoc}
use mathlib.Core.Bool.{Bool, true, false, ◌||◌, ◌&&◌}
use lib.Dec.{eqb}
use lib.ListN.{length, drop}
use native.Mathlib.Omega.{arith}
use denote.Enum.Declared.{tag_of}
use package.types.Run.{OneOf}
use Rattle.wire.specs.Field.{pick, number}
use Rattle.wire.specs.Text.{bytes}
use Rattle.streams.specs.Refusal.{number_of, detail_of}
use Rattle.streams.specs.declared.refusal.Refusal.{Refusal}
use Rattle.streams.specs.declared.refusal.Refusal.TheVariants.{ArgumentTypeNotArgumentList}
use Rattle.codeview.specs.declared.index.TypeIndex.{TypeIndex}
use Rattle.codeview.specs.declared.record.PrimitiveType.{PrimitiveType}
use Rattle.codeview.specs.declared.record.ModifierType.{ModifierType}
use Rattle.codeview.specs.declared.record.PointerType.{PointerType}
use Rattle.codeview.specs.declared.record.ProcedureType.{ProcedureType}
use Rattle.codeview.specs.declared.record.MemberFunctionType.{MemberFunctionType}
use Rattle.codeview.specs.declared.record.ArrayType.{ArrayType}
use Rattle.codeview.specs.declared.record.Entries.{Entries}
use Rattle.codeview.specs.declared.record.TypeData.{TypeData}
use Rattle.codeview.specs.declared.record.TypeData.TheVariants as type
use Rattle.codeview.specs.contracts.record.TypeData.{the_type}
use Rattle.codeview.proofs.Tags.{by-tag}
use Rattle.interpreter.specs.Trace.{Note, Count, plus, Trace, tr, done, missing, refused, halted, long, count, key, Held, opens, prefix, then, asked, exec, strict, write, refuse, call, seq, after}
use Rattle.interpreter.specs.Trace as trace
use Rattle.rules.specs.Flags.{Settings}
use Rattle.rules.specs.Record.{Record, Method, bad, Table, method, procedure, arguments, type_contents, type_as_read, numbers_at}
use Rattle.rules.specs.Places.{table_by, read_near, Lent, table_in}
use Rattle.rules.specs.Text.{missing_mark, primitive_text, Level, level, levels, over_pointee, ends_signed, brackets}
use Rattle.rules.specs.Task.{by_itself, target, target_of_modifier, modified, list_of, element, Rule, inside, texted, marked, value_of, separated}
use Rattle.rules.specs.Types.{result, procedure_result, returned, method_arguments, argument_entries, type_text, alone}
use Rattle.rules.specs.Pointers.{pointed, aimed, aimed_again, modified_text}
use Rattle.rules.specs.Methods.{method_text, method_list}
use Rattle.rules.specs.Arrays.{base_text}
use Rattle.rules.specs.Opening.{after_read, entry_of, body, walked, ruled}
use Rattle.pen.specs.declared.Pen.{Pen}
use Rattle.pen.specs.Page.{Page, page, read_pen, Wrote, page_after, idle, writing, step, unread_trace, last, ◌⨾◌, ending, marking}
use Rattle.pen.proofs.Laws.{◌▹◌, ◌▸◌, wrote_as, wrote-step, wrote-idle, wrote-same, wrote_by, prefix-none}
use Rattle.context.specs.declared.flags.Call.{Call}
use Rattle.context.specs.declared.seen.Way.{Way}
use Rattle.context.specs.declared.seen.Way.TheVariants as way
use Rattle.context.specs.Context.{settings_of, holding, sizes_of}
use Rattle.context.specs.Opening.{way_of, Opens, Writes}
use Rattle.context.proofs.Opening.{ruled-pick, unread-is, read-good, read-bad, walk-on, open_in, opened-then, stopped-then, type-open, type-bad, writes-by}
use Rattle.leaf_writers.specs.Marks.{mark_trace}
use Rattle.leaf_writers.specs.Fragments.{record_text, is_sign}
use Rattle.queries.specs.This.{this_of, by_this}
use Rattle.queries.proofs.ThisLaws.{this-is}
use Rattle.queries.specs.Arrays.{arrayed, end_arrayed, end_trace, Info}
use Rattle.queries.specs.declared.arrays.ArrayInfo.{ArrayInfo}
use Rattle.queries.specs.Sizes.{Sizes, size_trace}
use Rattle.emit.specs.Walking.{method_of, plain_pointed, aimed_at, way_to, aimed_rule}
use Rattle.queries.specs.declared.arrays.ArrayStop.{ArrayStop}
use Rattle.queries.specs.declared.sizes.TooLong.{TooLong}
use Rattle.queries.specs.declared.arrays.ArrayStop.TheVariants as stop

-- Taking up records without opening them changes nothing of a page.
wrote-taken : {g : Page} (k : ℕ) → Wrote g (tr [] done [] (count 0 k)) g
unfolding page_after step
wrote-taken {g} k = record { is = (wrote-step {g = g}).is }

pub wrote-later : {g h : Page} {t : Trace Refusal} (k : ℕ) → Wrote g t h → Wrote g (prefix [] [] (count 0 k) t) h
wrote-later {g} {h} {t} k w = wrote-taken {g = g} k ▹ w

pub writes_later : {left : ℕ} {list l : List ℕ} {g h : Page} {t : List ℕ → Trace Refusal} (k : ℕ) → Writes left list l g t h → Writes left list l g (λ o. prefix [] [] (count 0 k) (t o)) h
writes_later k a = record { wrote = wrote-later k a.wrote; kept = a.kept }

-- What goes by the bytes of a part.
then_same : (t : Trace Refusal) (f g : List ℕ → Trace Refusal) → ((bs : List ℕ) → f bs ≡ g bs) → then t f ≡ then t g
then_same (tr bs done ns c) f g h = ap (λ (x : Trace Refusal). prefix bs ns c x) (h bs)
then_same (tr bs (missing i) ns c) f g h = refl
then_same (tr bs (refused r) ns c) f g h = refl
then_same (tr bs (halted x) ns c) f g h = refl
then_same (tr bs trace.unfinished ns c) f g h = refl

ends-signed : (bs : List ℕ) → ends_signed bs ≡ is_sign (last 0 bs)
unfolding ends_signed is_sign last
ends-signed [] = refl
ends-signed (b ∷ []) = refl
ends-signed (b ∷ d ∷ bs) = ends-signed (d ∷ bs)

-- One trace after two others.
prefixed : (bs cs : List ℕ) (ns ms : List Note) (j k : Count) (t : Trace Refusal)
    → prefix (bs ++ cs) (ns ++ ms) (plus j k) t ≡ prefix bs ns j (prefix cs ms k t)
prefixed bs cs ns ms j k (tr ds e ls l) =
    let a : (j.opened + k.opened) + l.opened ≡ j.opened + (k.opened + l.opened) = omega arith in
    let b : (j.taken + k.taken) + l.taken ≡ j.taken + (k.taken + l.taken) = omega arith in
    rw (a, b, append_assoc, append_assoc)

after-prefix : (bs : List ℕ) (ns : List Note) (j : Count) (t u : Trace Refusal) → (prefix bs ns j t) ⨾ u ≡ prefix bs ns j (t ⨾ u)
unfolding ◌⨾◌
after-prefix bs ns j (tr cs done ms k) u = prefixed bs cs ns ms j k u
after-prefix bs ns j (tr cs (missing i) ms k) u = refl
after-prefix bs ns j (tr cs (refused r) ms k) u = refl
after-prefix bs ns j (tr cs (halted x) ms k) u = refl
after-prefix bs ns j (tr cs trace.unfinished ms k) u = refl

pub in-turn : (t u v : Trace Refusal) → (t ⨾ u) ⨾ v ≡ t ⨾ (u ⨾ v)
unfolding ◌⨾◌
in-turn (tr bs done ns c) u v = after-prefix bs ns c u v
in-turn (tr bs (missing i) ns c) u v = refl
in-turn (tr bs (refused r) ns c) u v = refl
in-turn (tr bs (halted x) ns c) u v = refl
in-turn (tr bs trace.unfinished ns c) u v = refl

-- The tags of the kinds at which a match ends in its last arm, and what is left of the rules for these kinds.
abbrev pub no_pointer_modifier : List ℕ
no_pointer_modifier = 0 ∷ 3 ∷ 4 ∷ 5 ∷ 6 ∷ 7 ∷ 8 ∷ 9 ∷ 10 ∷ 11 ∷ []

abbrev pub no_function : List ℕ
no_function = 0 ∷ 1 ∷ 2 ∷ 5 ∷ 6 ∷ 7 ∷ 8 ∷ 9 ∷ 10 ∷ 11 ∷ []

abbrev pub no_pointer_primitive : List ℕ
no_pointer_primitive = 1 ∷ 3 ∷ 4 ∷ 5 ∷ 6 ∷ 7 ∷ 8 ∷ 9 ∷ 10 ∷ 11 ∷ []

abbrev pub no_list : List ℕ
no_list = 0 ∷ 1 ∷ 2 ∷ 3 ∷ 4 ∷ 6 ∷ 7 ∷ 8 ∷ 9 ∷ 10 ∷ 11 ∷ []

abbrev pub only_named : List ℕ
only_named = 6 ∷ 8 ∷ 9 ∷ 10 ∷ 11 ∷ []

module _ (c : Settings) (s : List ℕ) where
  aimed-other : (ls : List Level) (m : Bool) (t : TypeData) → OneOf no_pointer_modifier (tag_of the_type t) → aimed_rule c m ls (type_contents s t) ≡ pointed c ls (type_contents s t)
  unfolding aimed aimed_again type_contents
  aimed-other ls true = by-tag no_pointer_modifier (λ t. aimed_rule c true ls (type_contents s t) ≡ pointed c ls (type_contents s t)) search
  aimed-other ls false = by-tag no_pointer_modifier (λ t. aimed_rule c false ls (type_contents s t) ≡ pointed c ls (type_contents s t)) search

  pointed-plain : (ls : List Level) (t : TypeData) → OneOf no_function (tag_of the_type t) → pointed c ls (type_contents s t) ≡ plain_pointed c ls (type_contents s t)
  unfolding pointed type_contents
  pointed-plain ls = by-tag no_function (λ t. pointed c ls (type_contents s t) ≡ plain_pointed c ls (type_contents s t)) search

  modified-other : (b : Bool) (t : TypeData) → OneOf no_pointer_primitive (tag_of the_type t) → modified_text c b (type_contents s t) ≡ seq (write (pick b (bytes "const ") [])) (texted (type_text c (type_contents s t)))
  unfolding modified_text type_contents
  modified-other b = by-tag no_pointer_primitive (λ t. modified_text c b (type_contents s t) ≡ seq (write (pick b (bytes "const ") [])) (texted (type_text c (type_contents s t)))) search

  list-other : (T : Table) (q : Method) (b : Bool) (t : TypeData) → OneOf no_list (tag_of the_type t) → method_list c T q b (type_contents s t) ≡ refuse (ArgumentTypeNotArgumentList q.list)
  unfolding method_list type_contents
  list-other T q b = by-tag no_list (λ t. method_list c T q b (type_contents s t) ≡ refuse (ArgumentTypeNotArgumentList q.list)) search

  named-only : (t : TypeData) → OneOf only_named (tag_of the_type t) → type_text c (type_contents s t) ≡ write (record_text c s t)
  unfolding type_text type_contents record_text
  named-only = by-tag only_named (λ t. type_text c (type_contents s t) ≡ write (record_text c s t)) search

-- The walk of what was not read by itself, and of the parts of a type's text.
module _ (c : Settings) (t : Table) (h : Held) where
  pub marked-is : (f : Refusal) → mark_trace f ≡ ruled c t h (marked f)
  unfolding marked mark_trace ruled exec
  marked-is f =
      sym
      (ruled-pick c t h (eqb (number_of f) 8) _ _
      ∙ ap (λ (x : Trace Refusal). pick (eqb (number_of f) 8) (writing (missing_mark (detail_of f))) x) (ruled-pick c t h (eqb (number_of f) 7) _ _))

  -- A type's text, with the mark where an index was missing.
  pub text-is : (p : Rule) → marking (ruled c t h p) (λ i. writing (missing_mark i)) ≡ ruled c t h (texted p)
  unfolding ruled exec marking
  text-is p = refl

  pub text-by : (u : Trace Refusal) (p : Rule) → u ≡ ruled c t h p → marking u (λ i. writing (missing_mark i)) ≡ ruled c t h (texted p)
  text-by u p e = ap (λ (x : Trace Refusal). marking x (λ i. writing (missing_mark i))) e ∙ text-is p

  -- A result.
  pub result-none : (b : Bool) (i : ℕ) → b ≡ true → writing [] ≡ ruled c t h (result c b i)
  unfolding ruled exec result
  result-none b i e = rw e

  pub result-some : (b : Bool) (i : ℕ) → b ≡ false → walked c t h (by_itself i) ⨾ writing (bytes " ") ≡ ruled c t h (result c b i)
  unfolding ruled exec result ◌⨾◌
  result-some b i e = rw e

  hidden : (x b : Bool) (i : ℕ) → ruled c t h (result c (x || b) i) ≡ ruled c t h (pick x (write []) (result c b i))
  unfolding result
  hidden true b i = refl
  hidden false b i = refl

  pub returned-is : (none b : Bool) (i : ℕ) → none ≡ c.no_return || b → ruled c t h (result c none i) ≡ ruled c t h (returned c (result c b i))
  unfolding returned
  returned-is none b i e = rw e (hidden c.no_return b i)

  -- A bare procedure and a bare method.
  procedure-is : (r list : ℕ) (b v none : Bool) → v ≡ b || eqb r 0 → none ≡ c.no_return || v
      → ruled c t h (result c none r) ⨾ writing (bytes "()(") ⨾ walked c t h (by_itself list) ≡ ruled c t h (type_text c (procedure r b list))
  unfolding ruled exec type_text procedure_result ◌⨾◌
  procedure-is r list b v none e f =
      let k : none ≡ c.no_return || (b || eqb r 0) = rw (← e) f in
      ap (λ (x : Trace Refusal). x ⨾ writing (bytes "()(") ⨾ walked c t h (by_itself list)) (returned-is none (b || eqb r 0) r k)

  method-is : (m : Method) (none : Bool) → none ≡ c.no_return || m.constructor
      → ruled c t h (result c none m.result) ⨾ writing (bytes "()") ⨾ ruled c t h (method_arguments c m false) ≡ ruled c t h (type_text c (method m))
  unfolding ruled exec type_text ◌⨾◌
  method-is m none e =
      ap (λ (x : Trace Refusal). x ⨾ writing (bytes "()") ⨾ ruled c t h (method_arguments c m false)) (returned-is none m.constructor m.result e)

  -- What is under pointers.
  pub member-ptr-is : (ls : List Level) (m : Method)
      → ruled c t h (result c m.constructor m.result) ⨾ writing (bytes "(") ⨾ walked c t h (by_itself m.class) ⨾ writing (levels c false false ls) ⨾ writing (bytes ")")
      ⨾ ruled c t h (method_arguments c m false) ≡ ruled c t h (pointed c ls (method m))
  unfolding ruled exec pointed ◌⨾◌
  member-ptr-is ls m = refl

  pub proc-ptr-is : (ls : List Level) (r list : ℕ) (b none : Bool) → none ≡ b || eqb r 0
      → ruled c t h (result c none r) ⨾ writing (bytes "(") ⨾ writing (levels c false false ls) ⨾ writing (bytes ")") ⨾ writing (bytes "(") ⨾ walked c t h (by_itself list) ⨾ writing (bytes ")")
      ≡ ruled c t h (pointed c ls (procedure r b list))
  unfolding ruled exec pointed procedure_result ◌⨾◌
  proc-ptr-is ls r list b none e = rw e

  pub other-ptr-is : (ls : List Level) (r : Record)
      → ending (ruled c t h (texted (type_text c r))) (λ b. levels c true (is_sign b) ls) ≡ ruled c t h (plain_pointed c ls r)
  unfolding ruled exec ending
  other-ptr-is ls r =
      then_same (ruled c t h (texted (type_text c r))) (λ bs. tr (levels c true (is_sign (last 0 bs)) ls) done [] (count 0 0))
      (λ bs. tr (levels c true (ends_signed bs) ls) done [] (count 0 0))
      (λ bs. ap (λ b. tr (levels c true b ls) done [] (count 0 0)) (sym (ends-signed bs)))

  -- The entries of a list, whatever stands between them.
  entries_none : (sep : List ℕ) (b : Bool) → writing [] ≡ ruled c t h (separated sep b [])
  unfolding ruled exec separated
  entries_none sep b = refl

  entries-more : (sep : List ℕ) (b : Bool) (a : ℕ) (al : List ℕ)
      → writing (pick b sep []) ⨾ walked c t h (by_itself a) ⨾ ruled c t h (separated sep true al) ≡ ruled c t h (separated sep b (a ∷ al))
  unfolding ruled exec separated ◌⨾◌
  entries-more sep b a al = refl

  -- What follows from the this pointer.
  pub given_is : (m : Method) (list : List ℕ) (closes constant shut : Bool) → shut ≡ closes && constant
      → writing (bytes "(") ⨾ ruled c t h (argument_entries c false list) ⨾ writing (bytes ")") ⨾ writing (pick shut (bytes " const") [])
      ≡ ruled c t h (method_text c m closes list false constant)
  unfolding ruled exec method_text ◌⨾◌
  given_is m list closes constant shut e =
      rw (e, prefix-none)

  never-shut : (b : Bool) → pick (b && false) (bytes " const") [] ≡ []
  never-shut true = refl
  never-shut false = refl

  pub extra-is : (m : Method) (list : List ℕ) (closes : Bool)
      → writing (bytes "(") ⨾ walked c t h (by_itself m.this) ⨾ ruled c t h (argument_entries c true list) ⨾ writing (bytes ")")
      ≡ ruled c t h (method_text c m closes list true false)
  unfolding ruled exec method_text ◌⨾◌
  extra-is m list closes = rw (never-shut closes)

module _ (s : List ℕ) (d : Lent) (call : Call) (o : List ℕ) where
  abbrev c : Settings
  c = settings_of call

  abbrev t : Table
  t = table_in s d

  abbrev h : Held
  h = holding call o

  -- An index by itself: what cannot be read is its mark.
  pub self-bad : (i : ℕ) {r : Result TypeData Refusal} {f : Refusal} → r ≡ read_near s d.near i → r ≡ Err f → step ⨾ mark_trace f ≡ walked c t h (by_itself i)
  unfolding entry_of body after_read alone
  self-bad i {r} {f} e g =
      let k : t.types i ≡ bad f = read-bad s d call o i r f e g in
      ap (λ (x : Trace Refusal). step ⨾ x) (marked-is c t h f) ∙ walk-on s d call o (by_itself i) (marked f) (rw k) (rw k)

  -- A method's arguments.
  module _ (m : Method) (closes : Bool) where
    pub args-hidden : {b : Bool} → b ≡ c.no_arguments → b ≡ true → writing [] ≡ ruled c t h (method_arguments c m closes)
    unfolding ruled exec method_arguments
    args-hidden e f = let k : c.no_arguments ≡ true = cc in rw k

    args-shown : {b : Bool} → b ≡ c.no_arguments → b ≡ false → walked c t h (list_of m closes) ≡ ruled c t h (method_arguments c m closes)
    unfolding ruled exec method_arguments
    args-shown e f = let k : c.no_arguments ≡ false = cc in rw k

    pub list-wrong : (x : TypeData) → OneOf no_list (tag_of the_type x)
        → tr [] (refused (ArgumentTypeNotArgumentList m.list)) [] (count 0 0) ≡ ruled c t h (method_list c t m closes (type_contents s x))
    unfolding ruled exec
    list-wrong x n = rw (list-other c s t m closes x n)

    pub list_right : {x : TypeData} {p : Entries} → x ≡ type.ArgumentList p
        → ruled c t h (method_list c t m closes (arguments (numbers_at s p.start p.count))) ≡ ruled c t h (method_list c t m closes (type_contents s x))
    unfolding type_contents
    list_right e = rw e

  -- What is done with a target that was read, by its kind.
  module _ (ls : List Level) {x : TypeData} where
    pub aimed-pointer : (m : Bool) {p : PointerType} {g : List Level} → x ≡ type.Pointer p → g ≡ level p.constant false p.mode ∷ ls
        → walked c t h (target p.underlying.0 g) ≡ ruled c t h (aimed_rule c m ls (type_contents s x))
    unfolding ruled exec aimed aimed_again type_contents
    aimed-pointer true e f = rw (e, f)
    aimed-pointer false e f = rw (e, f)

    pub aimed-modifier : {m : Bool} {p : ModifierType} {g : List Level} → m ≡ false → x ≡ type.Modifier p → g ≡ over_pointee p.constant ls
        → walked c t h (target_of_modifier p.underlying.0 g) ≡ ruled c t h (aimed_rule c m ls (type_contents s x))
    unfolding ruled exec aimed type_contents
    aimed-modifier a e f = rw (a, e, f)

    -- The last arm is come to by a second modifier, and by what is neither pointer nor modifier.
    pub aimed-twice : {m : Bool} {y : TypeData} {p : ModifierType} → y ≡ type.Modifier p → m ≡ true → x ≡ type.Modifier p
        → ruled c t h (pointed c ls (type_contents s y)) ≡ ruled c t h (aimed_rule c m ls (type_contents s x))
    unfolding aimed_again type_contents
    aimed-twice k a e = rw (k, a, e)

    pub aimed-plain : (m : Bool) {y : TypeData} → y ≡ x → OneOf no_pointer_modifier (tag_of the_type x)
        → ruled c t h (pointed c ls (type_contents s y)) ≡ ruled c t h (aimed_rule c m ls (type_contents s x))
    aimed-plain m k n = rw k (ap (λ (p : Rule). ruled c t h p) (sym (aimed-other c s ls m x n)))

  module _ (n : Bool) (x : TypeData) where
    pub modified-pointer : {p : PointerType} {w : Bool} {g q : List Level} → x ≡ type.Pointer p → w ≡ p.constant || n → q ≡ [] → g ≡ level w false p.mode ∷ q
        → walked c t h (target p.underlying.0 g) ≡ ruled c t h (modified_text c n (type_contents s x))
    unfolding ruled exec modified_text type_contents
    modified-pointer e f u v = rw (e, v, u, f)

    pub modified-primitive : {p : PrimitiveType} → x ≡ type.Primitive p → writing (primitive_text c n p.code p.indirection) ≡ ruled c t h (modified_text c n (type_contents s x))
    unfolding ruled exec modified_text type_contents
    modified-primitive e = rw e

    pub modified-plain : OneOf no_pointer_primitive (tag_of the_type x)
        → writing (pick n (bytes "const ") []) ⨾ ruled c t h (texted (type_text c (type_contents s x))) ≡ ruled c t h (modified_text c n (type_contents s x))
    unfolding ruled exec ◌⨾◌
    modified-plain j = rw (modified-other c s n x j)

  -- The this pointer decides what follows.
  module _ (m : Method) (closes : Bool) (list : List ℕ) {r : Result (Option Bool) Refusal} (e : r ≡ this_of (λ i. type_as_read s (read_near s d.near i)) m.this m.class) where
    by-this : ruled c t h (by_this r (λ extra constant. method_text c m closes list extra constant)) ≡ ruled c t h (method_list c t m closes (arguments list))
    unfolding method_list table_in table_by
    by-this = rw e (ap (λ (p : Rule). ruled c t h p) (sym (this-is c t m (λ extra constant. method_text c m closes list extra constant))))

    pub this-given : (constant : Bool) {shut : Bool} → r ≡ Ok (Some constant) → shut ≡ closes && constant
        → writing (bytes "(") ⨾ ruled c t h (argument_entries c false list) ⨾ writing (bytes ")") ⨾ writing (pick shut (bytes " const") [])
        ≡ ruled c t h (method_list c t m closes (arguments list))
    unfolding by_this
    this-given constant {shut} f g = given_is c t h m list closes constant shut g ∙ (rw f at by-this)

    pub this-extra : r ≡ Ok None
        → writing (bytes "(") ⨾ walked c t h (by_itself m.this) ⨾ ruled c t h (argument_entries c true list) ⨾ writing (bytes ")")
        ≡ ruled c t h (method_list c t m closes (arguments list))
    unfolding by_this
    this-extra f = extra-is c t h m list closes ∙ (rw f at by-this)

    pub this-bad : {a : Refusal} → r ≡ Err a → unread_trace a ≡ ruled c t h (method_list c t m closes (arguments list))
    unfolding by_this
    this-bad {a} f = unread-is c t h a ∙ (rw f at by-this)

  -- A type by its kind.
  pub inner-primitive : {x : TypeData} {p : PrimitiveType} → x ≡ type.Primitive p
      → writing (primitive_text c false p.code p.indirection) ≡ ruled c t h (type_text c (type_contents s x))
  unfolding ruled exec type_text type_contents
  inner-primitive e = rw e

  pub inner-modifier : {x : TypeData} {p : ModifierType} → x ≡ type.Modifier p
      → walked c t h (modified p.underlying.0 p.constant) ≡ ruled c t h (type_text c (type_contents s x))
  unfolding ruled exec type_text type_contents
  inner-modifier e = rw e

  pub inner-pointer : {x : TypeData} {p : PointerType} {g q : List Level} → x ≡ type.Pointer p → q ≡ [] → g ≡ level p.constant false p.mode ∷ q
      → walked c t h (target p.underlying.0 g) ≡ ruled c t h (type_text c (type_contents s x))
  unfolding ruled exec type_text type_contents
  inner-pointer e f k = rw (e, k, f)

  pub inner-procedure : {x : TypeData} {p : ProcedureType} {v none : Bool} → x ≡ type.Procedure p → v ≡ p.constructor || eqb p.result.0 0 → none ≡ c.no_return || v
      → ruled c t h (result c none p.result.0) ⨾ writing (bytes "()(") ⨾ walked c t h (by_itself p.arguments.0) ≡ ruled c t h (type_text c (type_contents s x))
  unfolding type_contents
  inner-procedure {p = p} {v} {none} e f g = rw e (procedure-is c t h p.result.0 p.arguments.0 p.constructor v none f g)

  pub inner-method : {x : TypeData} {p : MemberFunctionType} {none : Bool} → x ≡ type.MemberFunction p → none ≡ c.no_return || p.constructor
      → ruled c t h (result c none p.result.0) ⨾ writing (bytes "()") ⨾ ruled c t h (method_arguments c (method_of p) false) ≡ ruled c t h (type_text c (type_contents s x))
  unfolding type_contents
  inner-method {p = p} {none} e f = rw e (method-is c t h (method_of p) none f)

  pub inner-list : {x : TypeData} {p : Entries} → x ≡ type.ArgumentList p
      → ruled c t h (argument_entries c false (numbers_at s p.start p.count)) ≡ ruled c t h (type_text c (type_contents s x))
  unfolding type_text type_contents
  inner-list e = rw e

  pub inner-array : {x : TypeData} {p : ArrayType} → x ≡ type.Array p
      → walked c t h (element p.element.0 (p.size ∷ [])) ≡ ruled c t h (type_text c (type_contents s x))
  unfolding ruled exec type_text type_contents
  inner-array e = rw e

  pub inner-named : (x : TypeData) → OneOf only_named (tag_of the_type x) → writing (record_text c s x) ≡ ruled c t h (type_text c (type_contents s x))
  unfolding ruled exec
  inner-named x n = rw (named-only c s x n)

  -- What is under pointers, by its kind.
  pub helper-method : (ls : List Level) {x : TypeData} {p : MemberFunctionType} → x ≡ type.MemberFunction p
      → ruled c t h (pointed c ls (method (method_of p))) ≡ ruled c t h (pointed c ls (type_contents s x))
  unfolding type_contents
  helper-method ls e = rw e

  pub helper-procedure : (ls : List Level) {x : TypeData} {p : ProcedureType} → x ≡ type.Procedure p
      → ruled c t h (pointed c ls (procedure p.result.0 p.constructor p.arguments.0)) ≡ ruled c t h (pointed c ls (type_contents s x))
  unfolding type_contents
  helper-procedure ls e = rw e

  pub helper-other : (ls : List Level) (x : TypeData) → OneOf no_function (tag_of the_type x)
      → ruled c t h (plain_pointed c ls (type_contents s x)) ≡ ruled c t h (pointed c ls (type_contents s x))
  helper-other ls x n = rw (pointed-plain c s ls x n)

  -- An array: what its levels come to.
  module _ {e size : ℕ} {r : ArrayInfo} (n : Info s d.near e size r) where
    abbrev later : Trace Refusal → Trace Refusal
    later x = prefix [] [] (count 0 n.taken) x

    levels-are : {z : Result TypeData ArrayStop} → r.holds ≡ z → later (end_trace c t h s (sizes_of r.sizes) r.base.0 z) ≡ walked c t h (element e (size ∷ []))
    levels-are f = ap (λ (z : Result TypeData ArrayStop). later (end_trace c t h s (sizes_of r.sizes) r.base.0 z)) (sym f) ∙ n.is c d.ids h

    pub array_long : (i : TypeIndex) → r.holds ≡ Err (stop.TooLong i) → later (tr [] (halted (long i.0)) [] (count 0 0)) ≡ walked c t h (element e (size ∷ []))
    unfolding end_trace
    array_long i f = levels-are f

    pub array-bad : (a : Refusal) → r.holds ≡ Err (stop.Refused a) → later (unread_trace a) ≡ walked c t h (element e (size ∷ []))
    unfolding end_trace
    array-bad a f = ap later (unread-is c t h a) ∙ levels-are f

    base-is : {x : TypeData} → r.holds ≡ Ok x → later (ruled c t h (base_text c t r.base.0 (sizes_of r.sizes) (type_contents s x))) ≡ walked c t h (element e (size ∷ []))
    unfolding end_trace
    base-is f = levels-are f

    module _ {x : TypeData} {z : Result ℕ TooLong} (f : r.holds ≡ Ok x) (y : Sizes s d.near call r.base.0 0 z) where
      abbrev text : Rule
      text = texted (type_text c (type_contents s x))

      sized-is : later (asked (size_trace z y.taken) (λ v. ruled c t h (seq text (write (brackets (value_of v) (sizes_of r.sizes)))))) ≡ walked c t h (element e (size ∷ []))
      unfolding ruled exec base_text
      sized-is = rw (y.is d.ids h) (base-is f)

      pub array-unsized : {i : TooLong} → z ≡ Err i → later (prefix [] [] (count 0 y.taken) (tr [] (halted (long i.0)) [] (count 0 0))) ≡ walked c t h (element e (size ∷ []))
      unfolding size_trace
      array-unsized g = let k : y.taken + 0 ≡ y.taken = omega arith in rw k (rw g at sized-is)

      pub array-base : {v : ℕ} → z ≡ Ok v → later (prefix [] [] (count 0 y.taken) (ruled c t h text ⨾ writing (brackets v (sizes_of r.sizes)))) ≡ walked c t h (element e (size ∷ []))
      unfolding ruled exec size_trace value_of ◌⨾◌
      array-base g = rw g at sized-is

-- What opens an index in the list that is lent, where those from `left` on are open.
module _ (s : List ℕ) (d : Lent) (call : Call) (list : List ℕ) (left : ℕ) where
  abbrev c₁ : Settings
  c₁ = settings_of call

  abbrev t₁ : Table
  t₁ = table_in s d

  -- An index by itself that was read.
  module _ {r : Result TypeData Refusal} {x : TypeData} {i : ℕ} (b : List ℕ) (e : r ≡ read_near s d.near i) (g : r ≡ Ok x) {p q : Pen} {l : List ℕ}
      (z : Opens p list left way.Itself i l q) (room : length list ≡ 96) (low : left ≤ 96) where
    self-entry : entry_of c₁ t₁ (by_itself i) ≡ opens (key 1 i)
    unfolding entry_of after_read
    self-entry = rw (read-good s d call (drop left list) i r x e g)

    self-body : body c₁ t₁ (by_itself i) ≡ texted (type_text c₁ (type_contents s x))
    unfolding body alone
    self-body = rw (read-good s d call (drop left list) i r x e g)

    pub self-stopped : idle (read_pen q).stop ≡ true → Writes left list l (page b p) (λ o. walked c₁ t₁ (holding call o) (by_itself i)) (page b q)
    self-stopped f = stopped-then s d call list left (by_itself i) way.Itself i self-entry b z room low f

    pub self-open : {m : List ℕ} {j : Page} → idle (read_pen q).stop ≡ false
        → Writes (left - 1) l m (page b q) (λ o. ruled c₁ t₁ (holding call o) (texted (type_text c₁ (type_contents s x)))) j → Writes left list m (page b p) (λ o. walked c₁ t₁ (holding call o) (by_itself i)) j
    self-open f v = opened-then s d call list left (by_itself i) way.Itself i self-entry b (texted (type_text c₁ (type_contents s x))) (open_in z room low f) self-body v

  -- A pointer's target, and that of a pointer's modifier.
  module _ (m : Bool) (i : ℕ) (ls : List Level) where
    aimed-entry : entry_of c₁ t₁ (aimed_at m i ls) ≡ opens (key (way_of (way_to m)) i)
    unfolding entry_of
    aimed-entry = by m
      where
        by : (m : Bool) → entry_of c₁ t₁ (aimed_at m i ls) ≡ opens (key (way_of (way_to m)) i)
        by true = refl
        by false = refl

    aimed-body : body c₁ t₁ (aimed_at m i ls) ≡ inside (t₁.types i) (aimed_rule c₁ m ls)
    unfolding body
    aimed-body = by m
      where
        by : (m : Bool) → body c₁ t₁ (aimed_at m i ls) ≡ inside (t₁.types i) (aimed_rule c₁ m ls)
        by true = refl
        by false = refl

    module _ {w : Way} {p q : Pen} {l : List ℕ} (b : List ℕ) (u : w ≡ way_to m) (z : Opens p list left w i l q) (room : length list ≡ 96) (low : left ≤ 96) where
      way-is : Opens p list left (way_to m) i l q
      way-is = rw u at z

      pub aimed-stopped : idle (read_pen q).stop ≡ true → Writes left list l (page b p) (λ o. walked c₁ t₁ (holding call o) (aimed_at m i ls)) (page b q)
      aimed-stopped f = stopped-then s d call list left (aimed_at m i ls) (way_to m) i aimed-entry b way-is room low f

      module _ (go : idle (read_pen q).stop ≡ false) {r : Result TypeData Refusal} (y : r ≡ read_near s d.near i) where
        pub aimed-open : {x : TypeData} {k : List ℕ} {j : Page} → r ≡ Ok x
            → Writes (left - 1) l k (page b q) (λ o. ruled c₁ t₁ (holding call o) (aimed_rule c₁ m ls (type_contents s x))) j → Writes left list k (page b p) (λ o. walked c₁ t₁ (holding call o) (aimed_at m i ls)) j
        aimed-open f v = type-open s d call list left (aimed_at m i ls) (way_to m) i aimed-entry (aimed_rule c₁ m ls) aimed-body b way-is room low go y f v

        pub aimed-bad : {f : Refusal} {j : Page} → r ≡ Err f → Wrote (page b q) (unread_trace f) j → Writes left list l (page b p) (λ o. walked c₁ t₁ (holding call o) (aimed_at m i ls)) j
        aimed-bad f v = type-bad s d call list left (aimed_at m i ls) (way_to m) i aimed-entry (aimed_rule c₁ m ls) aimed-body b way-is room low go y f v

  -- Any other modifier's target.
  module _ (i : ℕ) (n : Bool) {p q : Pen} {l : List ℕ} (b : List ℕ) (z : Opens p list left way.Modified i l q) (room : length list ≡ 96) (low : left ≤ 96) where
    modified-entry : entry_of c₁ t₁ (modified i n) ≡ opens (key 4 i)
    unfolding entry_of
    modified-entry = refl

    modified-body : body c₁ t₁ (modified i n) ≡ inside (t₁.types i) (modified_text c₁ n)
    unfolding body
    modified-body = refl

    pub modified-stopped : idle (read_pen q).stop ≡ true → Writes left list l (page b p) (λ o. walked c₁ t₁ (holding call o) (modified i n)) (page b q)
    modified-stopped f = stopped-then s d call list left (modified i n) way.Modified i modified-entry b z room low f

    module _ (go : idle (read_pen q).stop ≡ false) {r : Result TypeData Refusal} (y : r ≡ read_near s d.near i) where
      pub modified-open : {x : TypeData} {m : List ℕ} {j : Page} → r ≡ Ok x
          → Writes (left - 1) l m (page b q) (λ o. ruled c₁ t₁ (holding call o) (modified_text c₁ n (type_contents s x))) j → Writes left list m (page b p) (λ o. walked c₁ t₁ (holding call o) (modified i n)) j
      modified-open f v = type-open s d call list left (modified i n) way.Modified i modified-entry (modified_text c₁ n) modified-body b z room low go y f v

      pub modified-bad : {f : Refusal} {j : Page} → r ≡ Err f → Wrote (page b q) (unread_trace f) j → Writes left list l (page b p) (λ o. walked c₁ t₁ (holding call o) (modified i n)) j
      modified-bad f v = type-bad s d call list left (modified i n) way.Modified i modified-entry (modified_text c₁ n) modified-body b z room low go y f v

  -- A method's arguments.
  module _ (m : Method) (closes : Bool) where
    list-entry : entry_of c₁ t₁ (list_of m closes) ≡ opens (key 5 m.list)
    unfolding entry_of
    list-entry = refl

    list-body : body c₁ t₁ (list_of m closes) ≡ inside (t₁.types m.list) (method_list c₁ t₁ m closes)
    unfolding body
    list-body = refl

    module _ {w : Bool} (e : w ≡ c₁.no_arguments) (g : w ≡ false) {p q : Pen} {l : List ℕ} (b : List ℕ)
        (z : Opens p list left way.List m.list l q) (room : length list ≡ 96) (low : left ≤ 96) where
      pub args-stopped : idle (read_pen q).stop ≡ true → Writes left list l (page b p) (λ o. ruled c₁ t₁ (holding call o) (method_arguments c₁ m closes)) (page b q)
      args-stopped f = writes-by (stopped-then s d call list left (list_of m closes) way.List m.list list-entry b z room low f) (args-shown s d call (drop left list) m closes e g)

      module _ (go : idle (read_pen q).stop ≡ false) {r : Result TypeData Refusal} (y : r ≡ read_near s d.near m.list) where
        pub args-open : {x : TypeData} {k : List ℕ} {j : Page} → r ≡ Ok x
            → Writes (left - 1) l k (page b q) (λ o. ruled c₁ t₁ (holding call o) (method_list c₁ t₁ m closes (type_contents s x))) j → Writes left list k (page b p) (λ o. ruled c₁ t₁ (holding call o) (method_arguments c₁ m closes)) j
        args-open f v = writes-by (type-open s d call list left (list_of m closes) way.List m.list list-entry (method_list c₁ t₁ m closes) list-body b z room low go y f v) (args-shown s d call (drop left list) m closes e g)

        pub args-bad : {f : Refusal} {j : Page} → r ≡ Err f → Wrote (page b q) (unread_trace f) j → Writes left list l (page b p) (λ o. ruled c₁ t₁ (holding call o) (method_arguments c₁ m closes)) j
        args-bad f v = writes-by (type-bad s d call list left (list_of m closes) way.List m.list list-entry (method_list c₁ t₁ m closes) list-body b z room low go y f v) (args-shown s d call (drop left list) m closes e g)

-- Where an index is opened there is room below the others.
pub room_below : {p q : Pen} {list l : List ℕ} {left i : ℕ} {w : Way} → Opens p list left w i l q → length list ≡ 96 → left ≤ 96 → idle (read_pen q).stop ≡ false → 0 < left
room_below z room low go = omega (arith, (open_in z room low go).next)

-- What an array counts in the measure.
pub arrayed_low : (x : TypeData) → arrayed x ≤ 1
unfolding arrayed type_contents
arrayed_low (type.Primitive p) = omega arith
arrayed_low (type.Modifier m) = omega arith
arrayed_low (type.Pointer p) = omega arith
arrayed_low (type.Procedure p) = omega arith
arrayed_low (type.MemberFunction m) = omega arith
arrayed_low (type.ArgumentList e) = omega arith
arrayed_low (type.Enumerate e) = omega arith
arrayed_low (type.Array a) = omega arith
arrayed_low (type.Class k) = omega arith
arrayed_low (type.Union u) = omega arith
arrayed_low (type.Enumeration e) = omega arith
arrayed_low (type.Unhandled k) = omega arith

pub arrayed_is : {x : TypeData} {p : ArrayType} → x ≡ type.Array p → arrayed x ≡ 1
unfolding arrayed type_contents
arrayed_is e = rw e

pub arrayed_not : {x : TypeData} {r : Result TypeData ArrayStop} → r ≡ Ok x → end_arrayed r ≡ 0 → arrayed x ≡ 0
unfolding end_arrayed
arrayed_not e f = rw e at f

-- The entries of a list from the one with a number on.
numbers_more : (s : List ℕ) (at n : ℕ) → 0 < n → numbers_at s at n ≡ number 4 s at ∷ numbers_at s (at + 4) (n - 1)
unfolding numbers_at
numbers_more s at zero h = absurd (omega arith)
numbers_more s at (suc n) h = let k : suc n - 1 ≡ n = omega arith in rw k

abbrev pub from : List ℕ → Entries → ℕ → List ℕ
from s e i = numbers_at s (e.start + 4 * i) (e.count - i)

from_all : (s : List ℕ) (e : Entries) → from s e 0 ≡ numbers_at s e.start e.count
from_all s e =
    let a : e.start + 4 * 0 ≡ e.start = omega arith in
    let b : e.count - 0 ≡ e.count = omega arith in
    rw (a, b)

from_next : (s : List ℕ) (e : Entries) (i : ℕ) → i < e.count → from s e i ≡ number 4 s (e.start + 4 * i) ∷ from s e (i + 1)
from_next s e i h =
    let a : e.start + 4 * i + 4 ≡ e.start + 4 * (i + 1) = omega arith in
    let b : e.count - i - 1 ≡ e.count - (i + 1) = omega arith in
    numbers_more s (e.start + 4 * i) (e.count - i) (omega arith) ∙ (rw (a, b))

from-none : (s : List ℕ) (e : Entries) (i : ℕ) → e.count ≤ i → from s e i ≡ []
unfolding numbers_at
from-none s e i h = let a : e.count - i ≡ 0 = omega arith in rw a

-- The loop over a list, its entries read from a stream and a text between them: whatever the rest makes of the page, the whole makes of the first page.
module _ (s : List ℕ) (d : Lent) (call : Call) (o stream sep : List ℕ) (e : Entries) where
  abbrev pub entries_trace : Bool → List ℕ → Trace Refusal
  entries_trace between list = ruled (settings_of call) (table_in s d) (holding call o) (separated sep between list)

  pub record Rest (first between : Bool) (i : ℕ) (g h : Page) : Type 0 where
    pub goes : (k : Page) → Wrote g (entries_trace between (from stream e i)) k → Wrote h (entries_trace first (numbers_at stream e.start e.count)) k

module _ {s : List ℕ} {d : Lent} {call : Call} {o stream sep : List ℕ} {e : Entries} where
  pub rest_all : {first : Bool} {g : Page} → Rest s d call o stream sep e first first 0 g g
  rest_all {first} = record { goes = λ k w. wrote_as (ap (entries_trace s d call o stream sep e first) (from_all stream e)) w }

  module _ {first between : Bool} {i : ℕ} {g h : Page} (r : Rest s d call o stream sep e first between i g h) where
    pub rest-next : {a : ℕ} {f m : Page} → i < e.count → a ≡ number 4 stream (e.start + 4 * i) → Wrote g (writing (pick between sep [])) f
        → Wrote f (walked (settings_of call) (table_in s d) (holding call o) (by_itself a)) m → Rest s d call o stream sep e first true (i + 1) m h
    rest-next {a} l q v w =
        record {
          goes = λ k z. r.goes k
              (wrote_by (v ▸ w ▸ z)
              (entries-more (settings_of call) (table_in s d) (holding call o) sep between a (from stream e (i + 1))
              ∙ ap (entries_trace s d call o stream sep e between) (rw q (sym (from_next stream e i l)))));
        }

    pub rest-none : e.count ≤ i → Wrote h (entries_trace s d call o stream sep e first (numbers_at stream e.start e.count)) g
    rest-none l =
        r.goes g
        (wrote-same (entries_none (settings_of call) (table_in s d) (holding call o) sep between ∙ ap (entries_trace s d call o stream sep e between) (sym (from-none stream e i l))))

    pub rest-idle : idle (read_pen g.pen).stop ≡ true → Wrote h (entries_trace s d call o stream sep e first (numbers_at stream e.start e.count)) g
    rest-idle l = r.goes g (wrote-idle l)
