-- The laws of an array's levels: that they end in what the rules write of the element; and the loop's end, by what is read, and a level more. Assumes nothing.
use Rattle.std.proofs.Common.{◌≡◌, ℕ, zero, suc, ◌+◌, ◌-◌, ◌≤◌, false, List, [], ◌∷◌, length, leb, eqb, Option, Some, None, Result, Ok, Err, refl, ap, ap₂, ◌∙◌, arith, rules}
use borrow.Author.Tests.{eq-eqb, ne_eqb}
use lib.Dec.{eqb-suc-zero}
use Rattle.wire.specs.Field.{pick}
use Rattle.streams.specs.declared.refusal.Refusal.{Refusal}
use Rattle.codeview.specs.Record.{type_index}
use Rattle.codeview.specs.declared.record.ArrayType.{ArrayType}
use Rattle.codeview.specs.declared.record.TypeData.{TypeData}
use Rattle.codeview.specs.declared.record.TypeData.TheVariants as type
use Rattle.interpreter.specs.Trace.{Trace, tr, count, prefix, exec, Held}
use Rattle.interpreter.proofs.Laws.{walk_through}
use Rattle.rules.specs.Flags.{Settings}
use Rattle.rules.specs.Record.{type_contents, type_as_read, array_or}
use Rattle.rules.specs.Task.{element, inside}
use Rattle.rules.specs.Arrays.{element_text}
use Rattle.rules.specs.Opening.{same_index, entry_of, body, rank, walked, ruled}
use Rattle.rules.proofs.Rank.{ranked}
use Rattle.rules.specs.Places.{table_by, Near, read_near, beside, table_in}
use Rattle.context.specs.Context.{sizes_of, no_dimensions, pushed_dimension}
use Rattle.context.proofs.Laws.{room-is, pushed-left, pushed-items, pushed-sizes}
use Rattle.context.specs.declared.levels.Dimensions.{Dimensions}
use Rattle.queries.specs.declared.arrays.ArrayInfo.{ArrayInfo}
use Rattle.queries.specs.declared.arrays.ArrayStop.{ArrayStop}
use Rattle.queries.specs.declared.arrays.ArrayStop.TheVariants as stop
use Rattle.queries.specs.Arrays.{ended, behind_level, levels_from, array_info, arrayed, end_arrayed, end_trace, Info}

-- A type as an array, where it is one.
abbrev as_array : TypeData → Option ArrayType
as_array (type.Array a) = Some a
as_array t = None

abbrev Plain : TypeData → Type 0
Plain t = (a : ArrayType) → t ≡ type.Array a → ⊥

plain : {A : Type 0} (s : List ℕ) (t : TypeData) (f : ℕ → ℕ → A) (z : A) → Plain t → array_or (type_contents s t) f z ≡ z
unfolding type_contents
plain s t f z n = search rules

-- What an index comes to by its levels.
abbrev trace_at : Settings → List ℕ → Near → Held → List ℕ → ArrayInfo → Trace Refusal
trace_at c ids v h types r = end_trace c (table_in types (beside ids v)) h types (sizes_of r.sizes) r.base.0 r.holds

-- Where the levels behind some sizes come to: after so many records that were taken up the end's trace is that of the element at the index, and the end is no array.
record Ends (types : List ℕ) (v : Near) (sizes : List ℕ) (i : ℕ) (r : ArrayInfo) : Type 0 where
  taken : ℕ
  is : (c : Settings) (ids : List ℕ) (h : Held)
      → prefix [] [] (count 0 taken) (trace_at c ids v h types r)
      ≡ walked c (table_in types (beside ids v)) h (element i sizes)
  flat : end_arrayed r.holds ≡ 0

module _ (types : List ℕ) (v : Near) (i : ℕ) where
  abbrev q : Result TypeData Refusal
  q = read_near types v i

  module _ (sizes : List ℕ) where
    abbrev step : Settings → List ℕ → Held → Trace Refusal
    step c ids h = let t = table_in types (beside ids v) in ruled c t h (inside (type_as_read types q) (element_text c t i sizes))

    through : (c : Settings) (ids : List ℕ) (h : Held) → prefix [] [] (count 0 1) (step c ids h) ≡ walked c (table_in types (beside ids v)) h (element i sizes)
    unfolding walked ruled entry_of body table_in table_by
    through c ids h = let t = table_in types (beside ids v) in walk_through same_index (entry_of c t) (body c t) rank (ranked c t) h (element i sizes) refl

    ends-here : (r : ArrayInfo) → ((c : Settings) (ids : List ℕ) (h : Held) → trace_at c ids v h types r ≡ step c ids h) → end_arrayed r.holds ≡ 0 → Ends types v sizes i r
    ends-here r e f = record { taken = 1; is = λ c ids h. ap (λ (t : Trace Refusal). prefix [] [] (count 0 1) t) (e c ids h) ∙ through c ids h; flat = f }

    ends-later : (a : ArrayType) (r : ArrayInfo) → q ≡ Ok (type.Array a) → leb 32 (length sizes) ≡ false → Ends types v (a.size ∷ sizes) a.element.0 r → Ends types v sizes i r
    unfolding ruled exec type_as_read type_contents element_text
    ends-later a r e b x =
        record {
          taken = 1 + x.taken;
          is = λ c ids h. more (trace_at c ids v h types r) (x.is c ids h) ∙ rw (e, b) at (through c ids h);
          flat = x.flat;
        }
      where
        more : {y : Trace Refusal} (t : Trace Refusal) → prefix [] [] (count 0 x.taken) t ≡ y → prefix [] [] (count 0 (1 + x.taken)) t ≡ prefix [] [] (count 0 1) y
        more (tr bs e ns c) g = let k : 1 + x.taken + c.taken ≡ 1 + (x.taken + c.taken) = omega arith in let l : 0 + c.opened ≡ 0 + (0 + c.opened) = omega arith in ap₂ (λ (i j : ℕ). tr bs e ns (count i j)) l k ∙ ap (λ (t : Trace Refusal). prefix [] [] (count 0 1) t) g

module _ (types : List ℕ) (v : Near) where
  ends-by : (sizes : Dimensions) (i : ℕ) (f : ℕ → ℕ → ArrayInfo)
      → ((a : ArrayType) → read_near types v i ≡ Ok (type.Array a) → Ends types v (sizes_of sizes) i (f a.element.0 a.size))
      → Ends types v (sizes_of sizes) i (behind_level types (read_near types v i) f (ended sizes i))
  unfolding behind_level end_trace end_arrayed arrayed type_as_read type_contents element_text
  ends-by sizes i f m = go (read_near types v i) refl
    where
      by : (t : TypeData) → read_near types v i ≡ Ok t → (a : Option ArrayType) → as_array t ≡ a → Ends types v (sizes_of sizes) i (array_or (type_contents types t) f (ended sizes i (Ok t)))
      by t e (Some a) k = let w : t ≡ type.Array a = search rules in rw w (m a (rw w at e))
      by t e None k =
          let p : Plain t = search rules in
          rw (plain types t f (ended sizes i (Ok t)) p) (ends-here types v i (sizes_of sizes) (ended sizes i (Ok t)) (λ c ids h. rw (e, plain types t _ _ p)) (plain [] t _ _ p))

      go : (q : Result TypeData Refusal) → read_near types v i ≡ q → Ends types v (sizes_of sizes) i (behind_level types q f (ended sizes i))
      go (Ok t) e = by t e (as_array t) refl
      go (Err x) e = ends-here types v i (sizes_of sizes) (ended sizes i (Err (stop.Refused x))) (λ c ids h. rw e) refl

  -- The levels come to an end, in whatever number they are.
  ends-from : (n : ℕ) (sizes : Dimensions) (i : ℕ) → sizes.left ≡ n → length sizes.items ≡ 32 → n ≤ 32 → Ends types v (sizes_of sizes) i (levels_from types v n sizes i)
  unfolding levels_from end_trace end_arrayed ruled exec type_as_read type_contents element_text
  ends-from zero sizes i l k m = ends-by sizes i _ (λ a g. ends-here types v i (sizes_of sizes) (ended sizes i (Err (stop.TooLong (type_index i)))) (λ c ids h. rw (g, room-is sizes k ∙ eq-eqb _ _ l)) refl)
  ends-from (suc n) sizes i l k m =
      let o : sizes.left ≡ 0 → ⊥ = λ z. omega arith in
      ends-by sizes i _ (λ a g.
      let x : Ends types v (sizes_of (pushed_dimension sizes a.size)) a.element.0 (levels_from types v n (pushed_dimension sizes a.size) a.element.0) = ends-from n _ _ (pushed-left sizes a.size n l) (pushed-items sizes a.size ∙ k) (omega arith) in
      ends-later types v i (sizes_of sizes) a _ g (room-is sizes k ∙ ne_eqb _ _ o) (rw (pushed-sizes sizes a.size (omega arith) (omega arith)) at x))

-- What follows of the answer.
pub info : (types : List ℕ) (v : Near) (e size : ℕ) (r : ArrayInfo) → r ≡ array_info types v e size → Info types v e size r
unfolding array_info no_dimensions pushed_dimension sizes_of
info types v e size r k =
    let x : Ends types v (size ∷ []) e (array_info types v e size) = ends-from types v 31 (pushed_dimension no_dimensions size) e refl refl (omega arith) in
    record { whole = k; taken = x.taken; is = λ c ids h. rw k (x.is c ids h); flat = rw k x.flat }

-- What the loop answers by what is read at the index, and a level more.
levels-at : (types : List ℕ) (v : Near) (n : ℕ) (sizes : Dimensions) (i : ℕ) → levels_from types v n sizes i
    ≡ behind_level types (read_near types v i) (λ e bytes. pick (eqb n 0) (ended sizes i (Err (stop.TooLong (type_index i)))) (levels_from types v (n - 1) (pushed_dimension sizes bytes) e)) (ended sizes i)
unfolding levels_from
levels-at types v zero sizes i = refl
levels-at types v (suc n) sizes i = let k : suc n - 1 ≡ n = omega arith in rw (k, eqb-suc-zero n)

module _ (types : List ℕ) (v : Near) (e size n : ℕ) (sizes : Dimensions) (i : ℕ) (same : levels_from types v n sizes i ≡ array_info types v e size) where
  pub levels-end : (t : TypeData) → read_near types v i ≡ Ok t → Plain t → Info types v e size (ended sizes i (Ok t))
  unfolding behind_level
  levels-end t k p = info types v e size _ (rw (← same, levels-at, k, plain types t _ _ p))

  pub levels-unread : (f : Refusal) → read_near types v i ≡ Err f → (r : Result TypeData ArrayStop) → r ≡ Err (stop.Refused f) → Info types v e size (ended sizes i r)
  unfolding behind_level
  levels-unread f k r h = info types v e size _ (rw (← same, levels-at, k, h))

  module _ (a : ArrayType) (k : read_near types v i ≡ Ok (type.Array a)) where
    pub levels-long : n ≡ 0 → Info types v e size (ended sizes i (Err (stop.TooLong (type_index i))))
    unfolding behind_level type_contents
    levels-long z = info types v e size _ (rw (← same, levels-at, k, eq-eqb _ _ z))

    pub levels-more : (n ≡ 0 → ⊥) → levels_from types v (n - 1) (pushed_dimension sizes a.size) a.element.0 ≡ array_info types v e size
    unfolding behind_level type_contents
    levels-more z = rw (← same, levels-at types v n sizes i, k, ne_eqb _ _ z)
