-- The levels of an array as the code gathers them, and what the rules write by them.
use Rattle.std.specs.Prelude.{ℕ, zero, suc, ◌≡◌, List, [], ◌∷◌, Result, Ok, Err}
use Rattle.streams.specs.declared.refusal.Refusal.{Refusal}
use Rattle.codeview.specs.Record.{type_index}
use Rattle.codeview.specs.declared.record.TypeData.{TypeData}
use Rattle.interpreter.specs.Trace.{Trace, tr, halted, long, count, prefix, Held}
use Rattle.rules.specs.Flags.{Settings}
use Rattle.rules.specs.Record.{Table, type_contents, array_or}
use Rattle.rules.specs.Places.{Near, read_near, beside, table_in}
use Rattle.rules.specs.Task.{element, unread}
use Rattle.rules.specs.Arrays.{base_text}
use Rattle.rules.specs.Opening.{walked, ruled}
use Rattle.context.specs.Context.{sizes_of, no_dimensions, pushed_dimension}
use Rattle.context.specs.declared.levels.Dimensions.{Dimensions}
use Rattle.queries.specs.declared.arrays.ArrayInfo.{ArrayInfo}
use Rattle.queries.specs.declared.arrays.ArrayStop.{ArrayStop}
use Rattle.queries.specs.declared.arrays.ArrayStop.TheVariants as stop

-- The value of `get_array_info` where the levels end, in a base or without one.
abbrev pub ended : Dimensions → ℕ → Result TypeData ArrayStop → ArrayInfo
ended sizes base end = record { sizes = sizes; base = type_index base; holds = end }

-- What is read behind a level: an array's element and byte size are gone on with; anything else is the end.
unfoldable pub behind_level : List ℕ → Result TypeData Refusal → (ℕ → ℕ → ArrayInfo) → (Result TypeData ArrayStop → ArrayInfo) → ArrayInfo
behind_level types (Ok t) more end = array_or (type_contents types t) more (end (Ok t))
behind_level types (Err f) more end = end (Err (stop.Refused f))

-- The levels from an index on, behind these sizes, where so many levels more may follow.
unfoldable pub levels_from : List ℕ → Near → ℕ → Dimensions → ℕ → ArrayInfo
levels_from types v zero sizes i = behind_level types (read_near types v i) (λ e bytes. ended sizes i (Err (stop.TooLong (type_index i)))) (ended sizes i)
levels_from types v (suc n) sizes i = behind_level types (read_near types v i) (λ e bytes. levels_from types v n (pushed_dimension sizes bytes) e) (ended sizes i)

-- The levels of an array with this element and byte size, which is the first of the 32 that there may be.
unfoldable pub array_info : List ℕ → Near → ℕ → ℕ → ArrayInfo
array_info types v e size = levels_from types v 31 (pushed_dimension no_dimensions size) e

-- What a type counts in the measure of the writers that call one another: an array one, any other type none.
unfoldable pub arrayed : TypeData → ℕ
arrayed t = array_or (type_contents [] t) (λ e b. 1) 0

-- The same of an end: only a base could be an array.
unfoldable pub end_arrayed : Result TypeData ArrayStop → ℕ
end_arrayed (Ok t) = arrayed t
end_arrayed (Err e) = 0

-- What an index under these sizes comes to, once it is taken up, by its end: the base and the brackets, or what stops there.
unfoldable pub end_trace : Settings → Table → Held → List ℕ → List ℕ → ℕ → Result TypeData ArrayStop → Trace Refusal
end_trace c t h types sizes base (Ok d) = ruled c t h (base_text c t base sizes (type_contents types d))
end_trace c t h types sizes base (Err (stop.TooLong i)) = tr [] (halted (long i.0)) [] (count 0 0)
end_trace c t h types sizes base (Err (stop.Refused f)) = ruled c t h (unread f)

-- What `get_array_info` gives of an array's element: which value, the whole of it; and what follows: how many records were taken up, one for each level; that
-- with these the end is the element's trace; and that the base is no array.
pub record Info (types : List ℕ) (v : Near) (e size : ℕ) (r : ArrayInfo) : Type 0 where
  pub whole : r ≡ array_info types v e size
  pub taken : ℕ
  pub is : (c : Settings) (ids : List ℕ) (h : Held)
      → prefix [] [] (count 0 taken) (end_trace c (table_in types (beside ids v)) h types (sizes_of r.sizes) r.base.0 r.holds)
      ≡ walked c (table_in types (beside ids v)) h (element e (size ∷ []))
  pub flat : end_arrayed r.holds ≡ 0
