-- The tasks that open nothing end: an index by itself that was not read, array elements, size steps, ids that were not read. Assumes nothing.
use Prim.Native.Nat.{ℕ, zero, suc, ◌+◌, ◌-◌, ◌<◌}
use native.Mathlib.Omega.{arith}
use mathlib.Core.Path.{◌≡◌, refl}
use mathlib.Core.Bool.{Bool, true, false, ◌||◌}
use mathlib.Core.List.{List, [], ◌∷◌}
use lib.Dec.{eqb, nleb→lt}
use lib.ListN.{length}
use Rattle.wire.specs.Field.{pick}
use Rattle.streams.specs.declared.refusal.Refusal.{Refusal}
use Rattle.streams.specs.Refusal.{number_of, detail_of}
use Rattle.interpreter.specs.Trace.{through, opens, afresh, Key, key, write, refuse, miss, call}
use Rattle.interpreter.proofs.Laws.{Calls, Ranked}
use Rattle.rules.specs.Flags.{Settings}
use Rattle.rules.specs.Record.{Named, class, union, enumeration, enumerate, kind_only, Record, pointer, modifier, procedure, method, arguments, array, primitive, named, Read, good, bad, IdRecord, Table}
use Rattle.rules.specs.Text.{missing_mark, unimplemented_mark}
use Rattle.rules.specs.Task.{separated, Task, by_itself, function_of, target, target_of_modifier, modified, list_of, element, size_of, id_of, function_id, member_id, Rule, inside, unless, unread, marked}
use Rattle.rules.specs.Types.{result, procedure_result, returned, method_arguments, argument_entries, type_text, alone}
use Rattle.rules.specs.Arrays.{base_text, element_text}
use Rattle.rules.specs.Sizes.{named_size, record_size, size_step}
use Rattle.rules.specs.Ids.{id_alone}
use Rattle.rules.specs.Opening.{as_itself, after_read, entry_of, body, rank}

pub low : (t : Task) → rank t < 256
unfolding rank
low (by_itself i) = omega arith
low (function_of i name) = omega arith
low (target i ls) = omega arith
low (target_of_modifier i ls) = omega arith
low (modified i constant) = omega arith
low (list_of m closes) = omega arith
low (element i sizes) = omega arith
low (size_of i n) = omega arith
low (id_of i) = omega arith
low (function_id scope t name) = omega arith
low (member_id parent t name) = omega arith

-- A test only picks; what was not read takes nothing up.
module _ (P : Task → Type 0) where
  calls-pick : (b : Bool) (p q : Rule) → Calls P p → Calls P q → Calls P (pick b p q)
  calls-pick true p q h g = h
  calls-pick false p q h g = g

  calls-unread : (f : Refusal) → Calls P (unread f)
  unfolding Calls unread
  calls-unread f = calls-pick (eqb (number_of f) 8) (miss (detail_of f)) (refuse f) tt tt

  calls-marked : (f : Refusal) → Calls P (marked f)
  unfolding Calls marked
  calls-marked f =
      calls-pick (eqb (number_of f) 8) (write (missing_mark (detail_of f))) _ tt
      (calls-pick (eqb (number_of f) 7) (write (unimplemented_mark (detail_of f))) (refuse f) tt tt)

module _ (c : Settings) (m : ℕ) where
  abbrev Below : Task → Type 0
  Below u = rank u < 40 + m

  unless-falls : (b : Bool) (p : Rule) → Calls Below p → Calls Below (unless b p)
  unfolding Calls
  unless-falls true p h = tt
  unless-falls false p h = h

  result-falls : (b : Bool) (i : ℕ) → Calls Below (result c b i)
  unfolding Calls result rank
  result-falls true i = tt
  result-falls false i = (omega arith, tt)

  entries-fall : (b : Bool) (l : List ℕ) → Calls Below (argument_entries c b l)
  unfolding Calls separated rank
  entries-fall b [] = tt
  entries-fall b (a ∷ l) = (tt, (omega arith, entries-fall true l))

  -- a type's own text takes up nothing that is not opened, but for an array's element
  base-falls : (t : Table) (i : ℕ) (sizes : List ℕ) (r : Record) → Calls Below (type_text c r) → Calls Below (base_text c t i sizes r)
  unfolding Calls base_text rank
  base-falls t i sizes r h = (omega arith, λ z. ((h, λ j. tt), tt))

  element-falls : (t : Table) (i : ℕ) (sizes : List ℕ) (r : Record) → m ≡ 32 - length sizes → Calls Below (element_text c t i sizes r)
  unfolding Calls element_text type_text rank returned procedure_result method_arguments
  element-falls t i sizes (pointer u mode a size) e = base-falls t i sizes (pointer u mode a size) (omega arith)
  element-falls t i sizes (modifier u a) e = base-falls t i sizes (modifier u a) (omega arith)
  element-falls t i sizes (procedure r k l) e =
      base-falls t i sizes (procedure r k l)
      (unless-falls c.no_return (result c (k || eqb r 0) r) (result-falls (k || eqb r 0) r), (tt, omega arith))
  element-falls t i sizes (method x) e =
      base-falls t i sizes (method x) (
        unless-falls c.no_return (result c x.constructor x.result) (result-falls x.constructor x.result),
        (tt, unless-falls c.no_arguments (call (list_of x false)) (omega arith)),
      )
  element-falls t i sizes (arguments l) e = base-falls t i sizes (arguments l) (entries-fall false l)
  element-falls t i sizes (array u b) e = λ l. omega (arith, nleb→lt 32 (length sizes) l)
  element-falls t i sizes (primitive code n) e = base-falls t i sizes (primitive code n) tt
  element-falls t i sizes (named x) e = base-falls t i sizes (named x) tt

module _ (c : Settings) (t : Table) where
  named-falls : (i n : ℕ) (x : Named) → n < 32 → Calls (λ u. rank u < suc (32 - n)) (named_size c t i n x)
  unfolding Calls named_size rank
  named-falls i n (class kind l) h = tt
  named-falls i n (union l) h = tt
  named-falls i n (enumeration u name) h = omega arith
  named-falls i n (enumerate w name) h = tt
  named-falls i n (kind_only k) h = tt

  record-falls : (i n : ℕ) (r : Record) → n < 32 → Calls (λ u. rank u < suc (32 - n)) (record_size c t i n r)
  unfolding Calls record_size rank
  record-falls i n (pointer u mode a size) h = tt
  record-falls i n (modifier u a) h = omega arith
  record-falls i n (procedure r k l) h = tt
  record-falls i n (method x) h = tt
  record-falls i n (arguments l) h = tt
  record-falls i n (array e b) h = tt
  record-falls i n (primitive code k) h = tt
  record-falls i n (named x) h = named-falls i n x h

  step_falls : (i n : ℕ) (r : Record) → Calls (λ u. rank u < suc (32 - n)) (size_step c t i n (good r))
  unfolding Calls size_step record_size
  step_falls i n (pointer u mode a size) = λ l. tt
  step_falls i n (modifier u a) = λ l. record-falls i n (modifier u a) (nleb→lt 32 n l)
  step_falls i n (procedure r k l) = λ l. tt
  step_falls i n (method x) = λ l. tt
  step_falls i n (arguments l) = λ l. tt
  step_falls i n (array e b) = λ l. tt
  step_falls i n (primitive code k) = tt
  step_falls i n (named x) = λ l. named-falls i n x (nleb→lt 32 n l)

  not_through : {A : Type 0} (k : Key) → opens k ≡ through → A
  not_through k e = absurd (let z : ◌≡◌ {A = ℕ} 0 1 = cc in omega arith)

  self-falls : (i : ℕ) (r : Read Record) → after_read r (as_itself i) ≡ through → Calls (λ u. rank u < 0) (alone c r)
  unfolding Calls after_read alone
  self-falls i (good r) e = not_through (key 1 i) e
  self-falls i (bad f) e = calls-marked (λ u. rank u < 0) f

  id-falls : (i : ℕ) (r : Read IdRecord) → after_read r (afresh i) ≡ through → Calls (λ u. rank u < 0) (id_alone c r)
  unfolding Calls after_read id_alone
  id-falls i (good r) e = absurd (let z : ◌≡◌ {A = ℕ} 0 1 = cc in omega arith)
  id-falls i (bad f) e = calls-marked (λ u. rank u < 0) f

  element-step : (i : ℕ) (sizes : List ℕ) (r : Read Record) → Calls (λ u. rank u < 40 + (32 - length sizes)) (inside r (element_text c t i sizes))
  element-step i sizes (good r) = element-falls c (32 - length sizes) t i sizes r refl
  element-step i sizes (bad f) = calls-unread (λ u. rank u < 40 + (32 - length sizes)) f

  size_step_lem : (i n : ℕ) (r : Read Record) → Calls (λ u. rank u < suc (32 - n)) (size_step c t i n r)
  unfolding Calls size_step
  size_step_lem i n (good r) = step_falls i n r
  size_step_lem i n (bad f) = tt

  pub falls : (x : Task) → entry_of c t x ≡ through → Calls (λ u. rank u < rank x) (body c t x)
  unfolding Calls rank entry_of body
  falls (by_itself i) e = self-falls i (t.types i) e
  falls (function_of zero name) e = tt
  falls (function_of (suc i) name) e = not_through (key 0 (suc i)) e
  falls (target i ls) e = not_through (key 2 i) e
  falls (target_of_modifier i ls) e = not_through (key 3 i) e
  falls (modified i constant) e = not_through (key 4 i) e
  falls (list_of m closes) e = not_through (key 5 m.list) e
  falls (element i sizes) e = element-step i sizes (t.types i)
  falls (size_of i n) e = size_step_lem i n (t.types i)
  falls (id_of i) e = id-falls i (t.ids i) e
  falls (function_id scope i name) e = not_through (key 0 i) e
  falls (member_id parent i name) e = not_through (key 0 i) e

  pub ranked : Ranked (entry_of c t) (body c t) rank
  ranked = record { low = low; falls = falls }
