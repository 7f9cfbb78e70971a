-- Openings are bounded by bytes (document 02, Note 4): no call opens more than 3,200 indexes for each byte of its text and as many again, for a rule that takes
-- up two indexes writes a byte between them. Assumes nothing.
use Prim.Native.Nat.{ℕ, zero, suc, ◌+◌, ◌*◌, ◌≤◌}
use native.Mathlib.Omega.{arith}
use mathlib.Core.Path.{◌≡◌, refl}
use mathlib.Core.Bool.{Bool, true, false, ◌||◌}
use mathlib.Core.List.{List, [], ◌∷◌}
use lib.Dec.{eqb, ltb}
use lib.ListN.{length}
use Rattle.std.specs.Prelude.{Result, Ok, Err}
use Rattle.wire.specs.Field.{pick}
use Rattle.wire.specs.Text.{bytes}
use Rattle.streams.specs.Refusal.{number_of}
use Rattle.streams.specs.Stream.{none, checked}
use Rattle.streams.specs.declared.refusal.Refusal.{Refusal}
use Rattle.streams.specs.declared.refusal.StreamKind.TheVariants.{Types, Ids}
use Rattle.streams.specs.declared.stream.Stream.{Stream}
use Rattle.record_places.specs.RecordPlaces.{lent_places}
use Rattle.interpreter.specs.Trace.{Trace, tr, write, through, Held, held, walk}
use Rattle.interpreter.proofs.Openings.{left, Paid, Hushed, Pays, pays-hushed, Spaced, paid-walk}
use Rattle.rules.specs.Flags.{Settings, settings, sized, flagged}
use Rattle.rules.specs.Record.{Method, Named, class, union, enumeration, enumerate, kind_only, Record, pointer, modifier, procedure, method, arguments, array, primitive, named, IdRecord, function, member_function, strings, string, id_kind_only, Read, good, bad, Table, table_of}
use Rattle.rules.specs.Text.{Level}
use Rattle.rules.specs.Task.{Task, by_itself, function_of, target, target_of_modifier, modified, list_of, element, size_of, id_of, function_id, member_id, Rule, texted, unread, marked, inside, separated}
use Rattle.rules.specs.Types.{result, procedure_result, returned, method_arguments, procedure_arguments, comma, type_text, alone}
use Rattle.rules.specs.Pointers.{pointed, aimed, aimed_again, modified_text}
use Rattle.rules.specs.Methods.{method_text, this_pointer, method_list, static_mark, method_named, procedure_named}
use Rattle.rules.specs.Arrays.{base_text, element_text}
use Rattle.rules.specs.Sizes.{named_size, record_size, size_step}
use Rattle.rules.specs.Ids.{function_text, scope_text, function_id_text, member_id_text, id_text, id_alone}
use Rattle.rules.specs.Opening.{same_index, entry_of, body, rank, walked}
use Rattle.rules.specs.Call.{refusal, whole, over_types, over_ids, function_reading, id_reading, type_reading, strictly}
use Rattle.rules.specs.Placed.{by_places, with_places}
use Rattle.rules.proofs.ByKind.{either, pointer-or, modifier-or, procedure-or, method-or, arguments-or, array-or, primitive-or}

-- The tasks that never open anything: size steps.
data Silent : Task → Type 0 where
  step : {i n : ℕ} → Silent (size_of i n)

-- A size step takes up at most one more.
module _ (c : Settings) (t : Table) where
  hushed-named : (i n : ℕ) (x : Named) → Hushed Silent (named_size c t i n x)
  unfolding Hushed named_size
  hushed-named i n (class b l) = tt
  hushed-named i n (union l) = tt
  hushed-named i n (enumeration u name) = step
  hushed-named i n (enumerate w name) = tt
  hushed-named i n (kind_only p) = tt

  hushed-record : (i n : ℕ) (r : Record) → Hushed Silent (record_size c t i n r)
  unfolding Hushed record_size
  hushed-record i n (pointer u m a z) = tt
  hushed-record i n (modifier u a) = step
  hushed-record i n (procedure r b l) = tt
  hushed-record i n (method m) = tt
  hushed-record i n (arguments l) = tt
  hushed-record i n (array e z) = tt
  hushed-record i n (primitive p b) = tt
  hushed-record i n (named x) = hushed-named i n x

  hushed-step : (i n : ℕ) (r : Read Record) → Hushed Silent (size_step c t i n r)
  unfolding Hushed size_step
  hushed-step i n (good r) = primitive-or (Hushed Silent) r _ _ (λ p b. hushed-record i n r) (hushed-record i n r)
  hushed-step i n (bad f) = tt

-- One part of a rule, with what is to spare after it, and the rest.
infixr 20 ◌and◌
◌and◌ : {A B : ℕ → Type 0} (h : (d : ℕ) × A d) → B h.0 → (d : ℕ) × (A d × B d)
h and g = (h.0, (h.1, g))

-- The rules, where a task that is taken up may open k indexes. What is to spare stands between the parts of a rule: k before a task that is taken up, then nothing
-- until a byte is written.
module _ (k : ℕ) (low : k ≤ 3_200) (c : Settings) where
  abbrev P : ℕ → ℕ → Rule → Type 0
  P a b p = Pays Silent k a b p

  pays-unread : (f : Refusal) → P k 0 (unread f)
  unfolding Pays unread
  pays-unread f = either (P k 0) (eqb (number_of f) 8) _ _ tt tt

  pays-marked : (f : Refusal) → P k 0 (marked f)
  unfolding Pays marked
  pays-marked f = either (P k 0) (eqb (number_of f) 8) _ _ (omega arith) (either (P k 0) (eqb (number_of f) 7) _ _ (omega arith) tt)

  pays-texted : (p : Rule) → P k 0 p → P k 0 (texted p)
  unfolding Pays
  pays-texted p h = (h, λ i. omega arith)

  pays-inside : {A : Type 0} (r : Read A) (f : A → Rule) → ((a : A) → P k 0 (f a)) → P k 0 (inside r f)
  pays-inside (good a) f h = h a
  pays-inside (bad e) f h = pays-unread e

  -- What follows an entry needs nothing, for it starts with a separator.
  pays-others : (sep l : List ℕ) → 1 ≤ length sep → P 0 0 (separated sep true l)
  unfolding Pays separated
  pays-others sep [] h = omega arith
  pays-others sep (a ∷ l) h = (k, omega arith) and (0, omega arith) and pays-others sep l h

  pays-separated : (sep l : List ℕ) → 1 ≤ length sep → P k 0 (separated sep false l)
  unfolding Pays separated
  pays-separated sep [] h = omega arith
  pays-separated sep (a ∷ l) h = (k, omega arith) and (0, omega arith) and pays-others sep l h

  comma-long : 1 ≤ length (comma c)
  unfolding comma
  comma-long = by c.space_comma
    where
      by : (b : Bool) → 1 ≤ length (pick b (bytes ", ") (bytes ","))
      by true = omega arith
      by false = omega arith

  pays-result : (b : Bool) (i : ℕ) → P k k (result c b i)
  unfolding Pays result
  pays-result b i = either (P k k) b _ _ (omega arith) ((0, omega arith) and omega arith)

  pays-procedure-result : (b : Bool) (i : ℕ) → P k k (procedure_result c b i)
  unfolding procedure_result
  pays-procedure-result b i = pays-result (b || eqb i 0) i

  pays-returned : (p : Rule) → P k k p → P k k (returned c p)
  unfolding Pays returned
  pays-returned p h = either (P k k) c.no_return _ p (omega arith) h

  pays-method-arguments : (m : Method) (b : Bool) → P k 0 (method_arguments c m b)
  unfolding Pays method_arguments
  pays-method-arguments m b = either (P k 0) c.no_arguments _ _ (omega arith) (omega arith)

  pays-procedure-arguments : (l : ℕ) → P k 0 (procedure_arguments c l)
  unfolding Pays procedure_arguments
  pays-procedure-arguments l = either (P k 0) c.no_arguments _ _ (omega arith) ((k, omega arith) and (0, omega arith) and omega arith)

  pays-type : (r : Record) → P k 0 (type_text c r)
  unfolding Pays type_text
  pays-type (pointer u m a z) = omega arith
  pays-type (modifier u a) = omega arith
  pays-type (procedure r b l) = (k, pays-returned _ (pays-procedure-result b r)) and (k, omega arith) and omega arith
  pays-type (method m) = (k, pays-returned _ (pays-result m.constructor m.result)) and (k, omega arith) and pays-method-arguments m false
  pays-type (arguments l) = pays-separated (comma c) l comma-long
  pays-type (array e z) = omega arith
  pays-type (primitive p n) = omega arith
  pays-type (named x) = omega arith

  pays-alone : (r : Read Record) → P k 0 (alone c r)
  unfolding alone
  pays-alone (good r) = pays-texted (type_text c r) (pays-type r)
  pays-alone (bad f) = pays-marked f

  pays-pointed : (ls : List Level) (r : Record) → P k 0 (pointed c ls r)
  unfolding Pays pointed
  pays-pointed ls r =
      method-or (P k 0) r _ _
      (λ m. (k, pays-result m.constructor m.result) and (k, omega arith) and (0, omega arith) and (0, omega arith) and (k, omega arith) and pays-method-arguments m false)
      (procedure-or (P k 0) r _ _
      (λ u b l. (k, pays-procedure-result b u) and (k, omega arith) and (k, omega arith) and (k, omega arith) and (k, omega arith) and (0, omega arith) and omega arith)
      (pays-texted (type_text c r) (pays-type r)))

  pays-aimed : (ls : List Level) (r : Record) → P k 0 (aimed c ls r)
  unfolding Pays aimed
  pays-aimed ls r = pointer-or (P k 0) r _ _ (λ u m a n. omega arith) (modifier-or (P k 0) r _ _ (λ u a. omega arith) (pays-pointed ls r))

  pays-aimed-again : (ls : List Level) (r : Record) → P k 0 (aimed_again c ls r)
  unfolding Pays aimed_again
  pays-aimed-again ls r = pointer-or (P k 0) r _ _ (λ u m a n. omega arith) (pays-pointed ls r)

  pays-modified : (b : Bool) (r : Record) → P k 0 (modified_text c b r)
  unfolding Pays modified_text
  pays-modified b r =
      pointer-or (P k 0) r _ _ (λ u m a n. omega arith)
      (primitive-or (P k 0) r _ _ (λ p n. omega arith) ((k, omega arith) and pays-texted (type_text c r) (pays-type r)))

  pays-method-text : (m : Method) (closes : Bool) (l : List ℕ) (extra constant : Bool) → P k 0 (method_text c m closes l extra constant)
  unfolding Pays method_text
  pays-method-text m closes l true constant = (k, omega arith) and (0, omega arith) and (0, pays-others (comma c) l comma-long) and (0, omega arith) and omega arith
  pays-method-text m closes l false constant = (k, omega arith) and (k, omega arith) and (0, pays-separated (comma c) l comma-long) and (0, omega arith) and omega arith

  pays-named-method : (m : Method) (p : Rule) (name : List ℕ) → P k k p → P k 0 (method_named c m p name)
  unfolding Pays method_named static_mark
  pays-named-method m p name h =
      (k, omega arith) and (k, pays-returned _ (pays-result m.constructor m.result)) and (k, h) and (k, omega arith) and pays-method-arguments m true

  pays-named-procedure : (r : ℕ) (b : Bool) (l : ℕ) (p : Rule) (name : List ℕ) → P k k p → P k 0 (procedure_named c r b l p name)
  unfolding Pays procedure_named
  pays-named-procedure r b l p name h = (k, pays-returned _ (pays-procedure-result b r)) and (k, h) and (k, omega arith) and pays-procedure-arguments l

  pays-function : (name : List ℕ) (r : Record) → P k 0 (function_text c name r)
  unfolding Pays function_text
  pays-function name r =
      method-or (P k 0) r _ _ (λ m. pays-named-method m (write []) name (omega arith))
      (procedure-or (P k 0) r _ _ (λ u b l. pays-named-procedure u b l (write []) name (omega arith)) (omega arith))

  pays-scope : (i : ℕ) → P k k (scope_text c i)
  unfolding Pays scope_text
  pays-scope i = either (P k k) (eqb i 0) _ _ (omega arith) ((0, omega arith) and omega arith)

  pays-function-id : (scope u : ℕ) (name : List ℕ) (r : Record) → P k 0 (function_id_text c scope u name r)
  unfolding Pays function_id_text
  pays-function-id scope u name r = procedure-or (P k 0) r _ _ (λ v b l. pays-named-procedure v b l (scope_text c scope) name (pays-scope scope)) tt

  pays-member-id : (parent u : ℕ) (name : List ℕ) (r : Record) → P k 0 (member_id_text c parent u name r)
  unfolding Pays member_id_text
  pays-member-id parent u name r = method-or (P k 0) r _ _ (λ m. pays-named-method m _ name ((0, omega arith) and omega arith)) tt

  pays-id : (r : Read IdRecord) → P k 0 (id_alone c r)
  unfolding Pays id_alone id_text
  pays-id (good (function scope u name)) = omega arith
  pays-id (good (member_function parent u name)) = omega arith
  pays-id (good (strings l)) = (k, omega arith) and (0, pays-separated (bytes "\" \"") l (omega arith)) and omega arith
  pays-id (good (string name)) = omega arith
  pays-id (good (id_kind_only i)) = omega arith
  pays-id (bad f) = pays-marked f

  module _ (t : Table) where
    pays-this : (m : Method) (f : Bool → Bool → Rule) → ((e x : Bool) → P k 0 (f e x)) → P k 0 (this_pointer c t m f)
    unfolding this_pointer
    pays-this m f h =
        either (P k 0) (eqb m.this 0) (f false false) _ (h false false)
        (pays-inside (t.types m.this) _
        (λ r. pointer-or (P k 0) r _ _
        (λ u n a z. either (P k 0) (eqb u m.class) (f false false) _ (h false false)
        (pays-inside (t.types u) _
        (λ q. modifier-or (P k 0) q _ _ (λ x b. either (P k 0) (eqb x m.class) _ _ (h false b.constant) (h true false)) (h true false))))
        (h true false)))

    pays-list : (m : Method) (closes : Bool) (r : Record) → P k 0 (method_list c t m closes r)
    unfolding Pays method_list
    pays-list m closes r = arguments-or (P k 0) r _ _ (λ l. pays-this m _ (λ e x. pays-method-text m closes l e x)) tt

    pays-element : (i : ℕ) (zs : List ℕ) (r : Record) → P k 0 (element_text c t i zs r)
    unfolding Pays Hushed element_text base_text
    pays-element i zs r = array-or (P k 0) r _ _ (λ e n. omega arith) (step, λ bs. ((0, pays-texted (type_text c r) (pays-type r)) and omega arith))

    pays-body : (x : Task) → P k 0 (body c t x)
    unfolding Pays body
    pays-body (by_itself i) = pays-alone (t.types i)
    pays-body (function_of zero name) = omega arith
    pays-body (function_of (suc i) name) = pays-inside (t.types (suc i)) _ (pays-function name)
    pays-body (target i ls) = pays-inside (t.types i) _ (pays-aimed ls)
    pays-body (target_of_modifier i ls) = pays-inside (t.types i) _ (pays-aimed-again ls)
    pays-body (modified i b) = pays-inside (t.types i) _ (pays-modified b)
    pays-body (list_of m b) = pays-inside (t.types m.list) _ (pays-list m b)
    pays-body (element i zs) = pays-inside (t.types i) _ (pays-element i zs)
    pays-body (size_of i n) = pays-hushed Silent k _ (hushed-step c t i n (t.types i))
    pays-body (id_of i) = pays-id (t.ids i)
    pays-body (function_id scope i name) = pays-inside (t.types i) _ (pays-function-id scope i name)
    pays-body (member_id parent i name) = pays-inside (t.types i) _ (pays-member-id parent i name)

spaced : (c : Settings) (t : Table) → Spaced Silent (entry_of c t) (body c t)
unfolding entry_of body
spaced c t = record { unopened = λ x s. unopened s; hushed = λ x s. hushed s; pays = λ k low x. pays-body k low c t x }
  where
    unopened : {x : Task} → Silent x → entry_of c t x ≡ through
    unopened step = refl

    hushed : {x : Task} → Silent x → Hushed Silent (body c t x)
    hushed (step {i} {n}) = hushed-step c t i n (t.types i)

-- At most 3,200 indexes opened for each byte written, and as many again.
abbrev pub Few : Trace Refusal → Type 0
Few (tr bs e ns c) = c.opened ≤ 3_200 * (length bs + 1)

paid-few : (k : ℕ) → k ≤ 3_200 → (t : Trace Refusal) → Paid k 0 t → Few t
paid-few k l (tr bs e ns c) h = omega arith

pub few-walk : (c : Settings) (t : Table) (h : Held) (x : Task) → Few (walked c t h x)
unfolding left walked
few-walk c t h x =
    paid-few (left h) (omega arith) (walk same_index (entry_of c t) (body c t) rank h x) (paid-walk Silent same_index (entry_of c t) (body c t) (spaced c t) rank h x)

few-strictly : (c : Settings) (t : Table) (x : Task) → Few (strictly c t x)
few-strictly c t x = few-walk c t (held 0 []) x

-- The readings of the calls, however a task is read: their checks, their streams.
few-pick : (b : Bool) (t u : Trace Refusal) → Few t → Few u → Few (pick b t u)
few-pick true t u h k = h
few-pick false t u h k = k

few-checks : (flags size : ℕ) (t : Trace Refusal) → Few t → Few (flagged flags (sized size t refusal) refusal)
unfolding flagged sized
few-checks flags size t h =
    few-pick (ltb flags 64) _ _ (few-pick (eqb size 4 || (eqb size 8 || eqb size 16)) t _ h (omega arith)) (omega arith)

few-whole : (r : Result Stream Refusal) (k : Stream → Trace Refusal) → ((t : Stream) → Few (k t)) → Few (whole r k)
unfolding whole
few-whole (Ok t) k h = h t
few-whole (Err f) k h = omega arith

module _ (read : Settings → Table → Task → Trace Refusal) (few : (c : Settings) (t : Table) (x : Task) → Few (read c t x)) (flags size : ℕ) (types : List ℕ) where
  few-types : (x : Task) → Few (over_types read flags size types x)
  unfolding over_types
  few-types x = few-checks flags size _ (few-whole (checked Types types) _ (λ t. few (settings flags size) (table_of types t [] none) x))

  few-ids : (ids : List ℕ) (x : Task) → Few (over_ids read flags size types ids x)
  unfolding over_ids
  few-ids ids x =
      few-checks flags size _
      (few-whole (checked Types types) _
      (λ t. few-whole (checked Ids ids) _ (λ u. few (settings flags size) (table_of types t ids u) x)))

-- With lent places too.
few-placed : (types ps : List ℕ) (c : Settings) (t : Table) (x : Task) → Few (with_places types ps strictly c t x)
unfolding with_places by_places
few-placed types ps c t x = by (lent_places types ps)
  where
    by : (p : Result Unit ℕ) → Few (by_places p (strictly c t x))
    by (Ok tt) = few-strictly c t x
    by (Err k) = omega arith

module _ (flags size : ℕ) (types : List ℕ) where
  pub few-function : (name : List ℕ) (index : ℕ) → Few (function_reading strictly flags size types name index)
  unfolding function_reading
  few-function name index = few-types strictly few-strictly flags size types (function_of index name)

  pub few-id : (ids : List ℕ) (index : ℕ) → Few (id_reading strictly flags size types ids index)
  unfolding id_reading
  few-id ids index = few-ids strictly few-strictly flags size types ids (id_of index)

  pub few-type : (index : ℕ) → Few (type_reading strictly flags size types index)
  unfolding type_reading
  few-type index = few-types strictly few-strictly flags size types (by_itself index)

  pub few-function-placed : (ps name : List ℕ) (index : ℕ) → Few (function_reading (with_places types ps strictly) flags size types name index)
  unfolding function_reading
  few-function-placed ps name index = few-types (with_places types ps strictly) (few-placed types ps) flags size types (function_of index name)

  pub few-id-placed : (ids ps : List ℕ) (index : ℕ) → Few (id_reading (with_places types ps strictly) flags size types ids index)
  unfolding id_reading
  few-id-placed ids ps index = few-ids (with_places types ps strictly) (few-placed types ps) flags size types ids (id_of index)

  pub few-type-placed : (ps : List ℕ) (index : ℕ) → Few (type_reading (with_places types ps strictly) flags size types index)
  unfolding type_reading
  few-type-placed ps index = few-types (with_places types ps strictly) (few-placed types ps) flags size types (by_itself index)
