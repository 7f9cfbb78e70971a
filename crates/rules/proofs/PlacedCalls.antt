-- The calls with lent places answer as the plain calls do, and demand 3 is in force. Assumes nothing.
use Prim.Native.Nat.{ℕ, ◌≤◌}
use mathlib.Core.Path.{◌≡◌, refl, sym, ◌∙◌, ap, subst, fun_ext}
use mathlib.Core.Bool.{Bool, true, false, ◌||◌}
use mathlib.Core.List.{List, []}
use mathlib.Core.Logic.{◌↔◌, ◌⊎◌, inl, inr}
use lib.Dec.{eqb, ltb}
use lib.ListN.{length, take}
use native.Mathlib.Omega.{arith}
use borrow.Author.Tests.{le-leb}
use Rattle.std.specs.Prelude.{Result, Ok, Err}
use Rattle.wire.specs.Field.{pick}
use Rattle.streams.specs.Stream.{none, checked}
use Rattle.streams.specs.declared.refusal.StreamKind.TheVariants.{Types, Ids}
use Rattle.streams.specs.declared.refusal.Refusal.{Refusal}
use Rattle.streams.specs.declared.refusal.Refusal.TheVariants.{UnknownFlags, PointerSize, WrongPlace}
use Rattle.streams.specs.declared.stream.Stream.{Stream}
use Rattle.record_places.specs.RecordPlaces.{places_of, lent_places}
use Rattle.record_places.proofs.Near.{lent-front}
use Rattle.interpreter.specs.Trace.{Trace, Finished}
use Rattle.rules.specs.Flags.{Settings, settings, sized, flagged}
use Rattle.rules.specs.Record.{Table, table_of}
use Rattle.rules.specs.Task.{Task, by_itself, function_of, size_of, id_of}
use Rattle.rules.specs.Call.{text, stopped, answer, refusal, whole, within, over_types, over_ids, function_reading, id_reading, type_reading, size_reading, strictly, plain_to, Reads, Demand, function_outcome, id_outcome, type_outcome, size_outcome, size_answer}
use Rattle.rules.specs.Placed.{by_places, with_places, function_placed, id_placed, type_placed, size_placed, AsPlain, PlacedDemand, FunctionPlacedDemand, IdPlacedDemand, TypePlacedDemand, SizeAsPlain}
use Rattle.rules.proofs.Demand.{function-demand, id-demand, type-demand, size-ends}

-- How a task is read, by the check of the places.
module _ (types ps : List ℕ) (read : Settings → Table → Task → Trace Refusal) where
  placed-right : lent_places types ps ≡ Ok tt → with_places types ps read ≡ read
  unfolding with_places by_places
  placed-right h = fun_ext (λ c. fun_ext (λ t. fun_ext (λ x. ap (λ p. by_places p (read c t x)) h)))

  placed-wrong : (k : ℕ) → lent_places types ps ≡ Err k → with_places types ps read ≡ (λ c t x. refusal (WrongPlace k))
  unfolding with_places by_places
  placed-wrong k h = fun_ext (λ c. fun_ext (λ t. fun_ext (λ x. ap (λ p. by_places p (read c t x)) h)))

-- What is lent past the places of the stream is never read: it changes no call.
pub placed-front : (types ps : List ℕ) (t : Stream) → checked Types types ≡ Ok t → with_places types (take (length (places_of t types)) ps) ≡ with_places types ps
unfolding with_places
placed-front types ps t g = fun_ext (λ read. fun_ext (λ c. fun_ext (λ s. fun_ext (λ x. ap (λ p. by_places p (read c s x)) (lent-front types ps t g)))))

-- A refusal before the walk, whatever the room.
pub refusal-within : (room : ℕ) (f : Refusal) → within room (refusal f) ≡ stopped f
unfolding within answer
refusal-within room f = rw (le-leb 0 room (omega arith)) refl

-- A call that is refused where its walk would begin is refused so, or is the plain call, which its checks refuse.
record Either (f : Refusal) (s t : Trace Refusal) : Type 0 where
  either : (s ≡ refusal f) ⊎ (s ≡ t)

either-walk : (f : Refusal) (t : Trace Refusal) → Either f (refusal f) t
either-walk f t = record { either = inl refl }

either-check : (f g : Refusal) → Either f (refusal g) (refusal g)
either-check f g = record { either = inr refl }

either-pick : (b : Bool) {f : Refusal} {s t u v : Trace Refusal} → Either f s t → Either f u v → Either f (pick b s u) (pick b t v)
either-pick true e g = e
either-pick false e g = g

either-whole : (c : Result Stream Refusal) {f : Refusal} {k l : Stream → Trace Refusal} → ((t : Stream) → Either f (k t) (l t)) → Either f (whole c k) (whole c l)
unfolding whole
either-whole (Ok t) e = e t
either-whole (Err g) {f} e = either-check f g

either-sized : (size : ℕ) {f : Refusal} {s t : Trace Refusal} → Either f s t → Either f (sized size s refusal) (sized size t refusal)
unfolding sized
either-sized size {f} e = either-pick (eqb size 4 || (eqb size 8 || eqb size 16)) e (either-check f (PointerSize size))

either-flagged : (flags : ℕ) {f : Refusal} {s t : Trace Refusal} → Either f s t → Either f (flagged flags s refusal) (flagged flags t refusal)
unfolding flagged
either-flagged flags {f} e = either-pick (ltb flags 64) e (either-check f (UnknownFlags flags))

module _ (flags size : ℕ) (types : List ℕ) (f : Refusal) where
  abbrev refusing : Settings → Table → Task → Trace Refusal
  refusing c t x = refusal f

  either-types : (x : Task) → Either f (over_types refusing flags size types x) (over_types strictly flags size types x)
  unfolding over_types
  either-types x = either-flagged flags (either-sized size (either-whole (checked Types types) (λ t. either-walk f (strictly (settings flags size) (table_of types t [] none) x))))

  either-ids : (ids : List ℕ) (x : Task) → Either f (over_ids refusing flags size types ids x) (over_ids strictly flags size types ids x)
  unfolding over_ids
  either-ids ids x = either-flagged flags (either-sized size (either-whole (checked Types types) (λ t. either-whole (checked Ids ids) (λ u. either-walk f (strictly (settings flags size) (table_of types t ids u) x)))))

-- Whatever is read, where the plain call ends.
module _ (types ps : List ℕ) (reading : (Settings → Table → Task → Trace Refusal) → Trace Refusal) (ends : Finished (reading strictly))
    (stops : (f : Refusal) → Either f (reading (λ c t x. refusal f)) (reading strictly)) where
  abbrev lent : Trace Refusal
  lent = reading (with_places types ps strictly)

  wrong-either : (k : ℕ) → lent_places types ps ≡ Err k → (lent ≡ refusal (WrongPlace k)) ⊎ (lent ≡ reading strictly)
  wrong-either k h = go (stops (WrongPlace k)).either
    where
      same : lent ≡ reading (λ c t x. refusal (WrongPlace k))
      same = ap reading (placed-wrong types ps strictly k h)

      go : (reading (λ c t x. refusal (WrongPlace k)) ≡ refusal (WrongPlace k)) ⊎ (reading (λ c t x. refusal (WrongPlace k)) ≡ reading strictly) → (lent ≡ refusal (WrongPlace k)) ⊎ (lent ≡ reading strictly)
      go (inl e) = inl (same ∙ e)
      go (inr e) = inr (same ∙ e)

  as_plain : AsPlain types ps reading
  as_plain =
      record {
        right = λ h. ap reading (placed-right types ps strictly h);
        wrong = wrong-either;
        finished = go (lent_places types ps) refl;
      }
    where
      by : (k : ℕ) → (lent ≡ refusal (WrongPlace k)) ⊎ (lent ≡ reading strictly) → Finished lent
      by k (inl e) = subst Finished (sym e) tt
      by k (inr e) = subst Finished (sym e) ends

      go : (p : Result Unit ℕ) → lent_places types ps ≡ p → Finished lent
      go (Ok tt) h = subst Finished (sym (ap reading (placed-right types ps strictly h))) ends
      go (Err k) h = by k (wrong-either k h)

  -- A call that is not refused by 17 is the plain one.
  not-wrong : (room : ℕ) → ((k : ℕ) → ¬ (within room lent ≡ stopped (WrongPlace k))) → lent ≡ reading strictly
  not-wrong room n = go (lent_places types ps) refl
    where
      by : (k : ℕ) → (lent ≡ refusal (WrongPlace k)) ⊎ (lent ≡ reading strictly) → lent ≡ reading strictly
      by k (inl e) = absurd (n k (ap (within room) e ∙ refusal-within room (WrongPlace k)))
      by k (inr e) = e

      go : (p : Result Unit ℕ) → lent_places types ps ≡ p → lent ≡ reading strictly
      go (Ok tt) h = ap reading (placed-right types ps strictly h)
      go (Err k) h = by k (wrong-either k h)

placed-demand : (types ps : List ℕ) {reading : (Settings → Table → Task → Trace Refusal) → Trace Refusal} → Demand reading → ((f : Refusal) → Either f (reading (λ c t x. refusal f)) (reading strictly)) → PlacedDemand types ps reading
placed-demand types ps {reading} d stops =
    record {
      answers = as_plain types ps reading d.finished stops;
      exactly = λ room h bs n. subst (λ (s : Trace Refusal). (within room s ≡ text bs n) ↔ (Reads (λ n. reading (plain_to n)) bs n × (length bs ≤ room))) (sym (not-wrong types ps reading d.finished stops room h)) (d.exactly room bs n);
      plain = d;
    }

-- Demand 3 of the three text calls with lent places, and what the size call answers.
module _ (flags size : ℕ) (types ps : List ℕ) where
  pub function-placed-demand : (name : List ℕ) (index : ℕ) → FunctionPlacedDemand flags size types ps name index
  unfolding function_reading
  function-placed-demand name index = placed-demand types ps (function-demand flags size types name index) (λ f. either-types flags size types f (function_of index name))

  pub id-placed-demand : (ids : List ℕ) (index : ℕ) → IdPlacedDemand flags size types ids ps index
  unfolding id_reading
  id-placed-demand ids index = placed-demand types ps (id-demand flags size types ids index) (λ f. either-ids flags size types f ids (id_of index))

  pub type-placed-demand : (index : ℕ) → TypePlacedDemand flags size types ps index
  unfolding type_reading
  type-placed-demand index = placed-demand types ps (type-demand flags size types index) (λ f. either-types flags size types f (by_itself index))

pub size-as-plain : (size : ℕ) (types ps : List ℕ) (index : ℕ) → SizeAsPlain size types ps index
unfolding size_reading
size-as-plain size types ps index =
    as_plain types ps (λ read. size_reading read size types index) (size-ends size types index)
    (λ f. either-sized size (either-whole (checked Types types) (λ t. either-walk f (strictly (settings 0 size) (table_of types t [] none) (size_of index 0)))))

-- The answers themselves, where the places are right, and where one is wrong.
module _ (types ps : List ℕ) (h : lent_places types ps ≡ Ok tt) where
  pub function-right : (flags size : ℕ) (name : List ℕ) (index room : ℕ) → function_placed flags size types ps name index room ≡ function_outcome flags size types name index room
  unfolding function_placed function_outcome
  function-right flags size name index room = ap (λ (r : Settings → Table → Task → Trace Refusal). within room (function_reading r flags size types name index)) (placed-right types ps strictly h)

  pub id_right : (flags size : ℕ) (ids : List ℕ) (index room : ℕ) → id_placed flags size types ids ps index room ≡ id_outcome flags size types ids index room
  unfolding id_placed id_outcome
  id_right flags size ids index room = ap (λ (r : Settings → Table → Task → Trace Refusal). within room (id_reading r flags size types ids index)) (placed-right types ps strictly h)

  pub type-right : (flags size index room : ℕ) → type_placed flags size types ps index room ≡ type_outcome flags size types index room
  unfolding type_placed type_outcome
  type-right flags size index room = ap (λ (r : Settings → Table → Task → Trace Refusal). within room (type_reading r flags size types index)) (placed-right types ps strictly h)

  pub size-right : (size index : ℕ) → size_placed size types ps index ≡ size_outcome size types index
  unfolding size_placed size_outcome
  size-right size index = ap (λ (r : Settings → Table → Task → Trace Refusal). size_answer (within 1 (size_reading r size types index))) (placed-right types ps strictly h)

module _ (types ps : List ℕ) (k : ℕ) (h : lent_places types ps ≡ Err k) where
  abbrev stopping : Settings → Table → Task → Trace Refusal
  stopping c t x = refusal (WrongPlace k)

  pub function-wrong : (flags size : ℕ) (name : List ℕ) (index room : ℕ) → function_placed flags size types ps name index room ≡ within room (function_reading stopping flags size types name index)
  unfolding function_placed
  function-wrong flags size name index room = ap (λ (r : Settings → Table → Task → Trace Refusal). within room (function_reading r flags size types name index)) (placed-wrong types ps strictly k h)

  pub id_wrong : (flags size : ℕ) (ids : List ℕ) (index room : ℕ) → id_placed flags size types ids ps index room ≡ within room (id_reading stopping flags size types ids index)
  unfolding id_placed
  id_wrong flags size ids index room = ap (λ (r : Settings → Table → Task → Trace Refusal). within room (id_reading r flags size types ids index)) (placed-wrong types ps strictly k h)

  pub type-wrong : (flags size index room : ℕ) → type_placed flags size types ps index room ≡ within room (type_reading stopping flags size types index)
  unfolding type_placed
  type-wrong flags size index room = ap (λ (r : Settings → Table → Task → Trace Refusal). within room (type_reading r flags size types index)) (placed-wrong types ps strictly k h)

  pub size-wrong : (size index : ℕ) → size_placed size types ps index ≡ size_answer (within 1 (size_reading stopping size types index))
  unfolding size_placed
  size-wrong size index = ap (λ (r : Settings → Table → Task → Trace Refusal). size_answer (within 1 (size_reading r size types index))) (placed-wrong types ps strictly k h)
