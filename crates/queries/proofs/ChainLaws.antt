-- Laws of a chain of size steps: the size of an index, by what was read there. Assumes nothing.
use Rattle.std.proofs.Common.{◌≡◌, ℕ, suc, ◌+◌, ◌≤◌, ◌<◌, eqb, leb, List, [], Result, Ok, Err, refl, sym, ap, ◌∙◌, rules}
use native.Mathlib.Numerals.{add-one}
use borrow.Author.Tests.{lt-leb, le-leb}
use Rattle.wire.specs.Field.{pick}
use Rattle.streams.specs.declared.refusal.Refusal.{Refusal}
use Rattle.codeview.specs.declared.record.PrimitiveType.{PrimitiveType}
use Rattle.codeview.specs.declared.record.TypeData.{TypeData}
use Rattle.codeview.specs.declared.record.TypeData.TheVariants as type
use Rattle.interpreter.specs.Trace.{exec, prefix, count, limit, Held, Trace}
use Rattle.interpreter.proofs.Laws.{walk_through}
use Rattle.rules.specs.Flags.{Settings, settings}
use Rattle.rules.specs.Record.{good, Table, type_contents, type_as_read}
use Rattle.rules.specs.Places.{table_by, Near, read_near, beside, table_in}
use Rattle.rules.specs.Text.{primitive_size}
use Rattle.rules.specs.Task.{size_of, value}
use Rattle.rules.specs.Sizes.{record_size, size_step}
use Rattle.rules.specs.Opening.{same_index, rank, entry_of, body, walked, ruled}
use Rattle.rules.proofs.Rank.{ranked}
use Rattle.context.specs.Context.{settings_of}
use Rattle.context.specs.declared.flags.Call.{Call}
use Rattle.queries.specs.Sizes.{size_trace, Sizes}
use Rattle.queries.specs.declared.sizes.TooLong.{TooLong}

-- One index more is taken up.
one-taken : (r : Result ℕ TooLong) (k : ℕ) → prefix [] [] (count 0 1) (size_trace r k) ≡ size_trace r (1 + k)
unfolding size_trace
one-taken (Ok v) k = refl
one-taken (Err i) k = refl

-- Any record but a primitive counts.
counted : (c : Settings) (b : Table) (i n : ℕ) (s : List ℕ) (t : TypeData) → ((p : PrimitiveType) → t ≡ type.Primitive p → ⊥)
    → size_step c b i n (good (type_contents s t)) ≡ limit (leb 32 n) i (record_size c b i n (type_contents s t))
unfolding size_step type_contents
counted c b i n s t f = search rules

module _ (types : List ℕ) (y : Near) (call : Call) (i n : ℕ) {q : Result TypeData Refusal} (read : q ≡ read_near types y i) where
  abbrev c : Settings
  c = settings_of call

  abbrev table : List ℕ → Table
  table ids = table_in types (beside ids y)

  abbrev step : List ℕ → Held → Trace Refusal
  step ids h = ruled c (table ids) h (size_step c (table ids) i n (type_as_read types q))

  through-step : (ids : List ℕ) (h : Held) → prefix [] [] (count 0 1) (step ids h) ≡ walked c (table ids) h (size_of i n)
  unfolding ruled walked entry_of body table_in table_by
  through-step ids h = rw read (walk_through same_index (entry_of c (table ids)) (body c (table ids)) rank (ranked c (table ids)) h (size_of i n) refl)

  sizes-by : (r : Result ℕ TooLong) (k : ℕ) → ((ids : List ℕ) (h : Held) → size_trace r k ≡ step ids h) → Sizes types y call i n r
  sizes-by r k e = record { taken = 1 + k; is = λ ids h. sym (one-taken r k) ∙ ap (λ (x : Trace Refusal). prefix [] [] (count 0 1) x) (e ids h) ∙ through-step ids h }

  pub size-refused : {f : Refusal} → q ≡ Err f → Sizes types y call i n (Ok 0)
  unfolding size_trace ruled exec size_step type_as_read
  size-refused e = sizes-by (Ok 0) 0 (λ ids h. rw e)

  module _ {t : TypeData} (e : q ≡ Ok t) where
    pub size-primitive : (p : PrimitiveType) → t ≡ type.Primitive p → {v : ℕ} → v ≡ pick (eqb p.indirection 0) (primitive_size p.code) call.size → Sizes types y call i n (Ok v)
    unfolding size_trace ruled exec size_step type_as_read type_contents record_size settings_of settings
    size-primitive p d {v} g = sizes-by (Ok v) 0 (λ ids h. rw (e, d, g))

    module _ (f : (p : PrimitiveType) → t ≡ type.Primitive p → ⊥) where
      pub size-long : 32 ≤ n → Sizes types y call i n (Err (record { 0 = i }))
      unfolding size_trace ruled exec type_as_read
      size-long g = sizes-by _ 0 (λ ids h. rw (e, counted c (table ids) i n types t f, le-leb 32 n g))

      module _ (g : n < 32) where
        pub size-told : {v : ℕ} → ((ids : List ℕ) → record_size c (table ids) i n (type_contents types t) ≡ value v) → Sizes types y call i n (Ok v)
        unfolding size_trace ruled exec type_as_read
        size-told k = sizes-by _ 0 (λ ids h. rw (e, counted c (table ids) i n types t f, lt-leb 32 n g, k ids))

        pub size-next : {u : ℕ} {r : Result ℕ TooLong} → ((ids : List ℕ) → record_size c (table ids) i n (type_contents types t) ≡ Rattle.interpreter.specs.Trace.call (size_of u (suc n))) → Sizes types y call u (n + 1) r → Sizes types y call i n r
        unfolding ruled exec type_as_read
        size-next {u} {r} k s = sizes-by r s.taken (λ ids h. rw (e, counted c (table ids) i n types t f, lt-leb 32 n g, k ids, ← add-one n) (s.is ids h))
