-- What a call answers by what its checks came to; with the real checks of its streams it is the rules' own call. Assumes nothing.
use Rattle.std.specs.Prelude.{Result, Ok, Err}
use Prim.Native.Nat.{ℕ, ◌+◌}
use mathlib.Core.Path.{◌≡◌, refl, ap, sym, ◌∙◌}
use mathlib.Core.Bool.{Bool, true, false, ◌||◌}
use mathlib.Core.List.{List, []}
use lib.Dec.{eqb, ltb}
use lib.ListN.{length}
use native.Mathlib.Omega.{arith}
use Rattle.wire.specs.Field.{pick}
use Rattle.streams.specs.Stream.{none, checked}
use Rattle.streams.specs.Bounds.{stream_in, spacing_in, check_in, places_in}
use Rattle.streams.specs.declared.refusal.StreamKind.TheVariants.{Types, Ids}
use Rattle.streams.specs.declared.refusal.Refusal.{Refusal}
use Rattle.streams.specs.declared.refusal.Refusal.TheVariants.{UnknownFlags, PointerSize, ChainTooLong, WrongPlace}
use Rattle.streams.specs.declared.stream.Stream.{Stream}
use Rattle.interpreter.specs.Trace.{Trace}
use Rattle.record_places.specs.RecordPlaces.{lent_places}
use Rattle.rules.specs.Flags.{Settings, settings, sized, flagged}
use Rattle.rules.specs.Record.{Table, table_of}
use Rattle.rules.specs.Places.{Near, near, beside, table_in}
use Rattle.rules.specs.Task.{Task, by_itself, function_of, id_of, size_of}
use Rattle.rules.specs.Call.{refusal, stopped, whole, over_types, over_ids, function_reading, id_reading, type_reading, size_reading, strictly, answer, within, function_outcome, id_outcome, type_outcome, size_answer, size_outcome, of_size}
use Rattle.rules.specs.Placed.{function_placed, id_placed, type_placed, size_placed}
use Rattle.rules.proofs.PlacedCalls.{refusal-within, function-right, id_right, type-right, size-right, function-wrong, id_wrong, type-wrong, size-wrong}
use Rattle.rules.proofs.Tables.{table-right, table-types}
use Rattle.context.specs.Context.{settings_of, keys_of, holding}
use Rattle.context.specs.declared.flags.Call.{Call}
use Rattle.context.specs.declared.flags.TypeFormatterFlags.{TypeFormatterFlags}
use Rattle.pen.specs.Page.{read_pen, page, Wrote}
use Rattle.pen.specs.declared.Pen.{Pen}
use Rattle.checked_calls.specs.Kept.{KeptOf, LentKept}
use Rattle.checked_calls.specs.Answers.{started, answered_by, settled, laid}
use Rattle.checked_calls.proofs.AnswerLaws.{answer-is, refused-laid}
use Rattle.queries.specs.Sizes.{Sizes, size_trace}
use Rattle.checked_calls.specs.Checks.{call_over, with_types, with_ids, and_ids, types_by, call_by, ids_by, performed, taken, function_walk, id_walk, type_walk, function_over, id_over, type_over, size_over, of_size_answer, place_refusal, unplaced}
use Rattle.queries.specs.declared.sizes.TooLong.{TooLong}

-- What is walked, by what the checks came to: `k` over the call that they give, or their refusal, which is a trace too.
module _ (k : Call → Trace Refusal) {r s : (Result Call Refusal)} (e : s ≡ r) where
  walked-good : (limit : ℕ) {c : Call} {buf b : List ℕ} {p q : Pen} → s ≡ Ok c → Wrote (page buf p) (k c) (page b q) → p ≡ started limit → Wrote (page buf (started limit)) (performed r k) (page b q)
  walked-good limit {c} f w g = let h : r ≡ Ok c = sym e ∙ f in rw (h, ← g) w

  walked-refused : (limit : ℕ) {f : Refusal} {buf b : List ℕ} {p q : Pen} → s ≡ Err f → Wrote (page buf p) (refusal f) (page b q) → p ≡ started limit → Wrote (page buf (started limit)) (performed r k) (page b q)
  walked-refused limit {f} g w h = let i : r ≡ Err f = sym e ∙ g in rw (i, ← h) w

module _ (v : Near) (flags size : ℕ) (types : List ℕ) {r : (Result Call Refusal)} where
  module _ (e : r ≡ call_by (check_in v.bounds Types) flags size) (i : ℕ) where
    pub type-good : (limit : ℕ) {c : Call} {buf b : List ℕ} {p q : Pen} → r ≡ Ok c → Wrote (page buf p) (taken types (beside [] v) (by_itself i) c) (page b q) → p ≡ started limit
        → Wrote (page buf (started limit)) (type_walk types v flags size i) (page b q)
    unfolding type_walk
    type-good = walked-good (taken types (beside [] v) (by_itself i)) e

    pub type-refused : (limit : ℕ) {f : Refusal} {buf b : List ℕ} {p q : Pen} → r ≡ Err f → Wrote (page buf p) (refusal f) (page b q) → p ≡ started limit
        → Wrote (page buf (started limit)) (type_walk types v flags size i) (page b q)
    unfolding type_walk
    type-refused = walked-refused (taken types (beside [] v) (by_itself i)) e

    pub function-good : (name : List ℕ) (limit : ℕ) {c : Call} {buf b : List ℕ} {p q : Pen} → r ≡ Ok c → Wrote (page buf p) (taken types (beside [] v) (function_of i name) c) (page b q)
        → p ≡ started limit → Wrote (page buf (started limit)) (function_walk types v flags size name i) (page b q)
    unfolding function_walk
    function-good name = walked-good (taken types (beside [] v) (function_of i name)) e

    pub function-refused : (name : List ℕ) (limit : ℕ) {f : Refusal} {buf b : List ℕ} {p q : Pen} → r ≡ Err f → Wrote (page buf p) (refusal f) (page b q) → p ≡ started limit
        → Wrote (page buf (started limit)) (function_walk types v flags size name i) (page b q)
    unfolding function_walk
    function-refused name = walked-refused (taken types (beside [] v) (function_of i name)) e

  module _ (ids : List ℕ) (e : r ≡ ids_by (check_in v.bounds Types) (check_in v.bounds Ids) flags size) (i : ℕ) where
    pub id-good : (limit : ℕ) {c : Call} {buf b : List ℕ} {p q : Pen} → r ≡ Ok c → Wrote (page buf p) (taken types (beside ids v) (id_of i) c) (page b q) → p ≡ started limit
        → Wrote (page buf (started limit)) (id_walk types ids v flags size i) (page b q)
    unfolding id_walk
    id-good = walked-good (taken types (beside ids v) (id_of i)) e

    pub id-refused : (limit : ℕ) {f : Refusal} {buf b : List ℕ} {p q : Pen} → r ≡ Err f → Wrote (page buf p) (refusal f) (page b q) → p ≡ started limit
        → Wrote (page buf (started limit)) (id_walk types ids v flags size i) (page b q)
    unfolding id_walk
    id-refused = walked-refused (taken types (beside ids v) (id_of i)) e

-- A walk from the start of a buffer, up to its end, is answered as the rules say.
pub text-is : {t : Trace Refusal} {buf b : List ℕ} {q : Pen} {a : (Result ℕ Refusal)} → Wrote (page buf (started (length buf))) t (page b q) → a ≡ answered_by (read_pen q).stop q.at
    → settled b a ≡ laid buf (within (length buf) t)
text-is {b = b} w f = ap (settled b) f ∙ answer-is w

-- A checked call has passed no id of a chain: all 32 are left.
abbrev chain_of : (Result Call Refusal) → ℕ
chain_of (Ok c) = c.chain
chain_of (Err f) = 0

module _ (t u : (Result Stream Refusal)) (flags size : ℕ) where
  no-chain : (a b : Bool) (s u : (Result Stream Refusal)) (k : TypeFormatterFlags) (e f : Refusal) → chain_of (and_ids (pick a (pick b (with_types k size s) (Err f)) (Err e)) u) ≡ 0
  no-chain true true (Ok t) (Ok u) k e f = refl
  no-chain true true (Ok t) (Err g) k e f = refl
  no-chain true true (Err g) u k e f = refl
  no-chain true false s u k e f = refl
  no-chain false b s u k e f = refl

  chain-none : chain_of (ids_by t u flags size) ≡ 0
  unfolding ids_by call_by types_by flagged sized
  chain-none = no-chain (ltb flags 64) (eqb size 4 || (eqb size 8 || eqb size 16)) t u (record { 0 = flags }) (UnknownFlags flags) (PointerSize size)

  pub all_left : {r : (Result Call Refusal)} {c : Call} → r ≡ ids_by t u flags size → r ≡ Ok c → c.chain + 32 ≡ 32
  all_left {r} {c} e f = let z : c.chain ≡ 0 = ap chain_of (sym f ∙ e) ∙ chain-none in omega arith

-- A size call: a size, or a chain that is too long.
abbrev pub size_said : (Result ℕ TooLong) → (Result ℕ Refusal)
size_said (Ok n) = Ok n
size_said (Err j) = Err (ChainTooLong j.0)

said-is : (s : (Result ℕ TooLong)) (k : ℕ) → of_size_answer (size_said s) ≡ of_size (size_answer (within 1 (size_trace s k)))
unfolding of_size_answer of_size size_answer within answer size_trace
said-is (Ok n) k = refl
said-is (Err j) k = refl

module _ (v : Near) (size : ℕ) (types : List ℕ) (i : ℕ) {r : (Result Call Refusal)} (e : r ≡ types_by (check_in v.bounds Types) (record { 0 = 0 }) size) where
  pub size_is_lem : {c : Call} {s : (Result ℕ TooLong)} {a : (Result ℕ Refusal)} → r ≡ Ok c → Sizes types v c i 0 s → size_said s ≡ a → of_size_answer a ≡ of_size (size_over types v size i)
  unfolding size_over
  size_is_lem {c} {s} {a} f g h =
      let w = ap (λ r. performed r (taken types (beside [] v) (size_of i 0))) (sym e ∙ f) in
      rw (← h) (said-is s g.taken ∙ ap (λ t. of_size (size_answer (within 1 t))) (g.is [] (holding c []) ∙ sym w))

  pub size-refused : {f : Refusal} → r ≡ Err f → of_size_answer (Err f) ≡ of_size (size_over types v size i)
  unfolding size_over of_size_answer of_size size_answer within answer
  size-refused {f} g = rw (sym e ∙ g) refl

-- The table by what is kept of the checks is the plain one.
module _ (types : List ℕ) (v : Near) (k : KeptOf Types types v) (t : Stream) (e : checked Types types ≡ Ok t) where
  kept-types : table_in types (beside [] v) ≡ table_of types t [] none
  unfolding table_in
  kept-types =
      let s : stream_in v.bounds Types ≡ t = k.stream t e in
      rw s (table-types (spacing_in v.bounds Types) (places_in v.bounds v.places Types) types t (k.right t e) (spacing_in v.bounds Ids) (places_in v.bounds v.places Ids) (stream_in v.bounds Ids))

  kept-ids : (ids : List ℕ) → KeptOf Ids ids v → (u : Stream) → checked Ids ids ≡ Ok u → table_in types (beside ids v) ≡ table_of types t ids u
  unfolding table_in
  kept-ids ids j u f =
      let s : stream_in v.bounds Types ≡ t = k.stream t e in
      let w : stream_in v.bounds Ids ≡ u = j.stream u f in
      rw (s, w) (table-right (spacing_in v.bounds Types) (places_in v.bounds v.places Types) types t (k.right t e) (spacing_in v.bounds Ids) (places_in v.bounds v.places Ids) ids u (j.right u f))

-- What follows from the checks of a call, by the rules and by what its checks came to: `k` is what is walked over the call that they give.
module _ (size flags : ℕ) (k : Call → Trace Refusal) where
  abbrev over : Call
  over = call_over (record { 0 = flags }) size

  with-types : (b : Bool) (s : (Result Stream Refusal)) (f : Refusal) (r : Stream → Trace Refusal) → ((t : Stream) → s ≡ Ok t → r t ≡ k over)
      → pick b (whole s r) (refusal f) ≡ performed (pick b (with_types (record { 0 = flags }) size s) (Err f)) k
  unfolding whole
  with-types true (Ok t) f r h = h t refl
  with-types true (Err g) f r h = refl
  with-types false s f r h = refl

  with-flags : (a b : Bool) (s : (Result Stream Refusal)) (e f : Refusal) (r : Stream → Trace Refusal) → ((t : Stream) → s ≡ Ok t → r t ≡ k over)
      → pick a (pick b (whole s r) (refusal f)) (refusal e) ≡ performed (pick a (pick b (with_types (record { 0 = flags }) size s) (Err f)) (Err e)) k
  with-flags true b s e f r h = with-types b s f r h
  with-flags false b s e f r h = refl

  with-ids : (a b : Bool) (s u : (Result Stream Refusal)) (e f : Refusal) (r : Stream → Stream → Trace Refusal) → ((t v : Stream) → s ≡ Ok t → u ≡ Ok v → r t v ≡ k over)
      → pick a (pick b (whole s (λ t. whole u (λ v. r t v))) (refusal f)) (refusal e)
      ≡ performed (and_ids (pick a (pick b (with_types (record { 0 = flags }) size s) (Err f)) (Err e)) u) k
  unfolding whole
  with-ids true true (Ok t) (Ok u) e f r h = h t u refl refl
  with-ids true true (Ok t) (Err g) e f r h = refl
  with-ids true true (Err g) u e f r h = refl
  with-ids true false s u e f r h = refl
  with-ids false b s u e f r h = refl

-- So the reading of a call is what is performed, where its task is read as it is walked over the checked streams.
module _ (read : Settings → Table → Task → Trace Refusal) (types : List ℕ) {c : (Result Stream Refusal)} (e : c ≡ checked Types types) (size flags : ℕ) (x : Task) (k : Call → Trace Refusal) where
  read-types : ((t : Stream) → checked Types types ≡ Ok t → read (settings flags size) (table_of types t [] none) x ≡ k (over size flags k))
      → over_types read flags size types x ≡ performed (call_by c flags size) k
  unfolding over_types call_by types_by flagged sized
  read-types h = rw e (with-flags size flags k (ltb flags 64) (eqb size 4 || (eqb size 8 || eqb size 16)) (checked Types types) (UnknownFlags flags) (PointerSize size) _ h)

  read-ids : (ids : List ℕ) {d : (Result Stream Refusal)} → d ≡ checked Ids ids
      → ((t u : Stream) → checked Types types ≡ Ok t → checked Ids ids ≡ Ok u → read (settings flags size) (table_of types t ids u) x ≡ k (over size flags k))
      → over_ids read flags size types ids x ≡ performed (ids_by c d flags size) k
  unfolding over_ids ids_by call_by types_by flagged sized
  read-ids ids f h = rw (e, f) (with-ids size flags k (ltb flags 64) (eqb size 4 || (eqb size 8 || eqb size 16)) (checked Types types) (checked Ids ids) (UnknownFlags flags) (PointerSize size) _ h)

read-size : (read : Settings → Table → Task → Trace Refusal) (types : List ℕ) {c : (Result Stream Refusal)} → c ≡ checked Types types → (size i : ℕ) (k : Call → Trace Refusal)
    → ((t : Stream) → checked Types types ≡ Ok t → read (settings 0 size) (table_of types t [] none) (size_of i 0) ≡ k (over size 0 k))
    → size_reading read size types i ≡ performed (types_by c (record { 0 = 0 }) size) k
unfolding size_reading types_by sized
read-size read types e size i k h = rw e (with-types size 0 k (eqb size 4 || (eqb size 8 || eqb size 16)) (checked Types types) (PointerSize size) _ h)

-- What a call reads by the rules, with what is kept of the real checks of its streams.
module _ (types : List ℕ) (v : Near) (kept : KeptOf Types types v) (size : ℕ) (x : Task) where
  walk-types : (flags : ℕ) (t : Stream) → checked Types types ≡ Ok t → strictly (settings flags size) (table_of types t [] none) x ≡ taken types (beside [] v) x (call_over (record { 0 = flags }) size)
  unfolding settings_of holding keys_of
  walk-types flags t e = ap (λ (y : Table). strictly (settings flags size) y x) (sym (kept-types types v kept t e))

  over-types : (flags : ℕ) → over_types strictly flags size types x ≡ performed (call_by (check_in v.bounds Types) flags size) (taken types (beside [] v) x)
  over-types flags = read-types strictly types kept.check size flags x (taken types (beside [] v) x) (walk-types flags)

  module _ (ids : List ℕ) (kept_ids : KeptOf Ids ids v) where
    walk-ids : (flags : ℕ) (t u : Stream) → checked Types types ≡ Ok t → checked Ids ids ≡ Ok u → strictly (settings flags size) (table_of types t ids u) x ≡ taken types (beside ids v) x (call_over (record { 0 = flags }) size)
    unfolding settings_of holding keys_of
    walk-ids flags t u e f = ap (λ (y : Table). strictly (settings flags size) y x) (sym (kept-ids types v kept t e ids kept_ids u f))

    over-ids : (flags : ℕ) → over_ids strictly flags size types ids x ≡ performed (ids_by (check_in v.bounds Types) (check_in v.bounds Ids) flags size) (taken types (beside ids v) x)
    over-ids flags = read-ids strictly types kept.check size flags x (taken types (beside ids v) x) ids kept_ids.check (walk-ids flags)

-- Over what is kept of the checks of the same bytes the four calls are the rules' own. The arguments, as far as a call has them: types, ids, name, flags, size,
-- i, room.
module _ (types : List ℕ) (v : Near) (kept : KeptOf Types types v) where
  over-size : (size i : ℕ) → size_reading strictly size types i ≡ performed (types_by (check_in v.bounds Types) (record { 0 = 0 }) size) (taken types (beside [] v) (size_of i 0))
  over-size size i = read-size strictly types kept.check size i (taken types (beside [] v) (size_of i 0)) (walk-types types v kept size (size_of i 0) 0)

  pub function-over : (name : List ℕ) (flags size i room : ℕ) → function_over types v flags size name i room ≡ function_outcome flags size types name i room
  unfolding function_over function_walk function_outcome function_reading
  function-over name flags size i room = ap (within room) (sym (over-types types v kept size (function_of i name) flags))

  pub id-over : (ids : List ℕ) → KeptOf Ids ids v → (flags size i room : ℕ) → id_over types ids v flags size i room ≡ id_outcome flags size types ids i room
  unfolding id_over id_walk id_outcome id_reading
  id-over ids k flags size i room = ap (within room) (sym (over-ids types v kept size (id_of i) ids k flags))

  pub type-over : (flags size i room : ℕ) → type_over types v flags size i room ≡ type_outcome flags size types i room
  unfolding type_over type_walk type_outcome type_reading
  type-over flags size i room = ap (within room) (sym (over-types types v kept size (by_itself i) flags))

  pub size-over : (size i : ℕ) → size_over types v size i ≡ size_outcome size types i
  unfolding size_over size_outcome
  size-over size i = ap (λ t. size_answer (within 1 t)) (sym (over-size size i))

-- The calls with lent places: where the places are right they are the calls over what is kept, and else 17 follows from the checks.
module _ (types ps ns : List ℕ) (lent : LentKept types ps ns) where
  module _ (h : lent_places types ps ≡ (Ok tt)) where
    pub function-lent : (name : List ℕ) (flags size i room : ℕ) → function_over types (near ns ps) flags size name i room ≡ function_placed flags size types ps name i room
    function-lent name flags size i room = function-over types (near ns ps) (lent.kept h) name flags size i room ∙ sym (function-right types ps h flags size name i room)

    pub id-lent : (ids : List ℕ) → KeptOf Ids ids (near ns ps) → (flags size i room : ℕ) → id_over types ids (near ns ps) flags size i room ≡ id_placed flags size types ids ps i room
    id-lent ids k flags size i room = id-over types (near ns ps) (lent.kept h) ids k flags size i room ∙ sym (id_right types ps h flags size ids i room)

    pub type-lent : (flags size i room : ℕ) → type_over types (near ns ps) flags size i room ≡ type_placed flags size types ps i room
    type-lent flags size i room = type-over types (near ns ps) (lent.kept h) flags size i room ∙ sym (type-right types ps h flags size i room)

    pub size-lent : (size i : ℕ) → size_over types (near ns ps) size i ≡ size_placed size types ps i
    size-lent size i = size-over types (near ns ps) (lent.kept h) size i ∙ sym (size-right types ps h size i)

  module _ (n : ℕ) (h : lent_places types ps ≡ Err n) where
    abbrev wrong : Call → Trace Refusal
    wrong c = refusal (WrongPlace n)

    pub function-unlent : (name : List ℕ) (flags size i room : ℕ) → within room (unplaced (call_by (check_in ns Types) flags size) n) ≡ function_placed flags size types ps name i room
    unfolding function_reading
    function-unlent name flags size i room =
        sym (function-wrong types ps n h flags size name i room ∙ ap (within room) (read-types (λ c t x. refusal (WrongPlace n)) types lent.check size flags (function_of i name) wrong (λ t e. refl)))

    pub id-unlent : (ids : List ℕ) → KeptOf Ids ids (near ns ps) → (flags size i room : ℕ) → within room (unplaced (ids_by (check_in ns Types) (check_in ns Ids) flags size) n) ≡ id_placed flags size types ids ps i room
    unfolding id_reading
    id-unlent ids k flags size i room =
        sym (id_wrong types ps n h flags size ids i room ∙ ap (within room) (read-ids (λ c t x. refusal (WrongPlace n)) types lent.check size flags (id_of i) wrong ids k.check (λ t u e f. refl)))

    pub type-unlent : (flags size i room : ℕ) → within room (unplaced (call_by (check_in ns Types) flags size) n) ≡ type_placed flags size types ps i room
    unfolding type_reading
    type-unlent flags size i room =
        sym (type-wrong types ps n h flags size i room ∙ ap (within room) (read-types (λ c t x. refusal (WrongPlace n)) types lent.check size flags (by_itself i) wrong (λ t e. refl)))

    pub size-unlent : (size i : ℕ) → size_answer (within 1 (unplaced (types_by (check_in ns Types) (record { 0 = 0 }) size) n)) ≡ size_placed size types ps i
    size-unlent size i =
        sym (size-wrong types ps n h size i ∙ ap (λ t. size_answer (within 1 t)) (read-size (λ c t x. refusal (WrongPlace n)) types lent.check size i wrong (λ t e. refl)))

-- What a call with a wrong place tells, by its checks.
module _ (n : ℕ) where
  pub unplaced_is : (buf : List ℕ) (r : (Result Call Refusal)) → settled buf (Err (place_refusal r n)) ≡ laid buf (within (length buf) (unplaced r n))
  unplaced_is buf (Ok c) = refused-laid buf (WrongPlace n) ∙ ap (laid buf) (sym (refusal-within (length buf) (WrongPlace n)))
  unplaced_is buf (Err f) = refused-laid buf f ∙ ap (laid buf) (sym (refusal-within (length buf) f))

  pub unsized_is : (r : (Result Call Refusal)) → of_size_answer (Err (place_refusal r n)) ≡ of_size (size_answer (within 1 (unplaced r n)))
  unfolding of_size_answer of_size size_answer within answer
  unsized_is (Ok c) = refl
  unsized_is (Err f) = refl
