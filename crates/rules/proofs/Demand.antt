-- Demand 3, for the function, the id and the type call: a text exactly where the plain reading ends in it, nothing was met again, no limit was passed and
-- the buffer is long enough. With it: one text at the most, none where the reading never ends, and every walk ends. Assumes nothing.
use Prim.Native.Nat.{ℕ, ◌≤◌}
use native.Mathlib.Omega.{arith}
use mathlib.Core.Path.{◌≡◌, refl, sym, ◌∙◌, ap, subst}
use mathlib.Core.Logic.{◌↔◌, ◌⊎◌, inl, inr}
use mathlib.Core.Bool.{Bool, true, false, ◌||◌}
use mathlib.Core.List.{List, [], ◌∷◌}
use lib.Dec.{T, leb, ltb, eqb, leb→le, le→leb}
use lib.ListN.{length}
use Rattle.std.specs.Prelude.{Result, Ok, Err}
use Rattle.wire.specs.Field.{pick}
use Rattle.streams.specs.Refusal.{number_of}
use Rattle.streams.specs.Stream.{none, checked}
use Rattle.streams.specs.declared.refusal.StreamKind.TheVariants.{Types, Ids}
use Rattle.streams.specs.declared.refusal.Refusal.{Refusal}
use Rattle.streams.specs.declared.refusal.Refusal.TheVariants as refusal₀
use Rattle.streams.specs.declared.stream.Stream.{Stream}
use Rattle.interpreter.specs.Trace.{Note, again, deep, long, End, done, missing, refused, halted, unfinished, Count, count, Trace, tr, Finished, held, plain}
use Rattle.interpreter.proofs.Laws.{unnoted, exactly, walk-beside, walk_ends, one_end}
use Rattle.interpreter.proofs.Steps.{by-steps}
use Rattle.rules.specs.Flags.{Settings, settings, sized, flagged}
use Rattle.rules.specs.Record.{Table, table_of}
use Rattle.rules.specs.Task.{Task, by_itself, function_of, size_of, id_of}
use Rattle.rules.specs.Opening.{same_index, entry_of, body, rank, walked, plainly}
use Rattle.rules.specs.Call.{Outcome, text, stopped, answer, within, refusal, whole, over_types, over_ids, function_reading, id_reading, type_reading, size_reading, strictly, plain_to, met_again, limit_passed, Reads, Demand, FunctionDemand, IdDemand, TypeDemand, SizeFinished}
use Rattle.rules.proofs.Rank.{ranked}

-- What ties a call's walk to its plain readings: the walk writes a text exactly where some number of steps finish the reading in it with nothing noted, and a reading
-- has one end.
record Tied (s : Trace Refusal) (p : ℕ → Trace Refusal) : Type 0 where
  forth : (bs : List ℕ) (ns : List Note) (k : Count) → s ≡ tr bs done ns k → p k.taken ≡ tr bs done [] k
  back : (bs : List ℕ) (k : Count) (n : ℕ) → p n ≡ tr bs done [] k → s ≡ tr bs done [] k
  single : (n m : ℕ) → Finished (p n) → Finished (p m) → p n ≡ p m
  ends : Finished s

tied-walk : (c : Settings) (t : Table) (x : Task) → Tied (strictly c t x) (λ n. plain_to n c t x)
unfolding walked plainly
tied-walk c t x = record { forth = forth; back = back; single = single; ends = walk_ends same_index (entry_of c t) (body c t) rank (ranked c t) (held 0 []) x }
  where
    both : (bs : List ℕ) (k : Count) → (walked c t (held 0 []) x ≡ tr bs done [] k) ↔ ((n : ℕ) × (plainly c t n (held 0 []) x ≡ tr bs done [] k))
    both bs k = exactly same_index (entry_of c t) (body c t) rank (ranked c t) (held 0 []) x bs done k tt (λ s. elim s [ ])

    forth : (bs : List ℕ) (ns : List Note) (k : Count) → walked c t (held 0 []) x ≡ tr bs done ns k → plainly c t k.taken (held 0 []) x ≡ tr bs done [] k
    forth bs ns k e =
        let clean = unnoted (walk-beside same_index (entry_of c t) (body c t) rank (ranked c t) (held 0 []) x) bs done ns k e (λ s. elim s [ ]) in
        let r = (by-steps same_index (entry_of c t) (body c t) plain (held 0 []) x (tr bs done [] k) tt).0 ((both bs k).0 clean) in
        subst (λ (n : ℕ). plainly c t n (held 0 []) x ≡ tr bs done [] k) (sym r.2) r.1

    back : (bs : List ℕ) (k : Count) (n : ℕ) → plainly c t n (held 0 []) x ≡ tr bs done [] k → walked c t (held 0 []) x ≡ tr bs done [] k
    back bs k n e = (both bs k).1 (n, e)

    single : (n m : ℕ) → Finished (plainly c t n (held 0 []) x) → Finished (plainly c t m (held 0 []) x) → plainly c t n (held 0 []) x ≡ plainly c t m (held 0 []) x
    single n m f g = one_end same_index (entry_of c t) (body c t) plain n m (held 0 []) x f g

tied-refusal : (f : Refusal) → Tied (refusal f) (λ n. refusal f)
tied-refusal f =
    record {
      forth = λ bs ns k e. absurd (let z : ◌≡◌ {A = ℕ} 0 1 = cc in omega arith);
      back = λ bs k n e. e;
      single = λ n m g h. refl;
      ends = tt;
    }

tied-pick : (b : Bool) {s s' : Trace Refusal} {p p' : ℕ → Trace Refusal} → Tied s p → Tied s' p' → Tied (pick b s s') (λ n. pick b (p n) (p' n))
tied-pick true h g = h
tied-pick false h g = g

tied-whole : (r : Result Stream Refusal) {k : Stream → Trace Refusal} {l : ℕ → Stream → Trace Refusal} → ((t : Stream) → Tied (k t) (λ n. l n t)) → Tied (whole r k) (λ n. whole r (l n))
unfolding whole
tied-whole (Ok t) h = h t
tied-whole (Err f) h = tied-refusal f

module _ (flags size : ℕ) (types : List ℕ) where
  tied-types : (x : Task) → Tied (over_types strictly flags size types x) (λ n. over_types (plain_to n) flags size types x)
  unfolding over_types flagged sized
  tied-types x =
      tied-pick (ltb flags 64)
      (tied-pick (eqb size 4 || (eqb size 8 || eqb size 16))
      (tied-whole (checked Types types) (λ t. tied-walk (settings flags size) (table_of types t [] none) x))
      (tied-refusal (refusal₀.PointerSize size)))
      (tied-refusal (refusal₀.UnknownFlags flags))

  tied-ids : (ids : List ℕ) (x : Task) → Tied (over_ids strictly flags size types ids x) (λ n. over_ids (plain_to n) flags size types ids x)
  unfolding over_ids flagged sized
  tied-ids ids x =
      tied-pick (ltb flags 64)
      (tied-pick (eqb size 4 || (eqb size 8 || eqb size 16))
      (tied-whole (checked Types types) (λ t. tied-whole (checked Ids ids) (λ u. tied-walk (settings flags size) (table_of types t ids u) x)))
      (tied-refusal (refusal₀.PointerSize size)))
      (tied-refusal (refusal₀.UnknownFlags flags))

-- What a text answer says of the trace, and the other way round.
pub record IsText (room : ℕ) (bs : List ℕ) (n : ℕ) (s : Trace Refusal) : Type 0 where
  pub notes : List Note
  pub steps : ℕ
  pub is : s ≡ tr bs done notes (count n steps)
  pub fits : length bs ≤ room

pub is-text : (room : ℕ) (bs : List ℕ) (n : ℕ) (s : Trace Refusal) → within room s ≡ text bs n → IsText room bs n s
unfolding within answer
is-text room bs n (tr cs e ns k) p = go (leb (length cs) room) e refl p
  where
    no_text : {A : Type 0} {f : Refusal} → stopped f ≡ text bs n → A
    no_text p = absurd (let z : ◌≡◌ {A = ℕ} 0 1 = cc in omega arith)

    go : (b : Bool) (e : End Refusal) → leb (length cs) room ≡ b → pick b (answer cs k.opened e) (stopped refusal₀.NoRoom) ≡ text bs n → IsText room bs n (tr cs e ns k)
    go false e l p = no_text p
    go true done l p =
        let same : cs ≡ bs = cc in
        let many : k.opened ≡ n = cc in
        record {
          notes = ns;
          steps = k.taken;
          is = ap (λ (x : List ℕ). tr x done ns k) same ∙ ap (λ (m : ℕ). tr bs done ns (count m k.taken)) many;
          fits = rw same at (leb→le (length cs) room (subst T (sym l) tt));
        }
    go true (missing i) l p = no_text p
    go true (refused f) l p = no_text p
    go true (halted (again i)) l p = no_text p
    go true (halted (deep i)) l p = no_text p
    go true (halted (long i)) l p = no_text p
    go true unfinished l p = no_text p

pub text-is : (room : ℕ) (bs : List ℕ) (ns : List Note) (k : Count) → length bs ≤ room → within room (tr bs done ns k) ≡ text bs k.opened
unfolding within answer
text-is room bs ns k h = go (leb (length bs) room) (le→leb (length bs) room h)
  where
    go : (b : Bool) → T b → pick b (text bs k.opened) (stopped refusal₀.NoRoom) ≡ text bs k.opened
    go true t = refl
    go false t = absurd t

no-notes : (ns : List Note) → met_again ns ≡ false → limit_passed ns ≡ false → ns ≡ []
unfolding met_again limit_passed
no-notes [] p q = refl
no-notes (again i ∷ ns) p q = absurd (let z : ◌≡◌ {A = ℕ} 0 1 = cc in omega arith)
no-notes (deep i ∷ ns) p q = absurd (let z : ◌≡◌ {A = ℕ} 0 1 = cc in omega arith)
no-notes (long i ∷ ns) p q = absurd (let z : ◌≡◌ {A = ℕ} 0 1 = cc in omega arith)

module _ {s : Trace Refusal} {p : ℕ → Trace Refusal} (tied : Tied s p) where
  clean : {bs : List ℕ} {n : ℕ} (r : Reads p bs n) → p r.steps ≡ tr bs done [] (count n r.steps)
  clean {bs} {n} r = r.ended ∙ ap (λ (ns : List Note). tr bs done ns (count n r.steps)) (no-notes r.notes r.not_again r.not_passed)

  demand : (room : ℕ) (bs : List ℕ) (n : ℕ) → (within room s ≡ text bs n) ↔ (Reads p bs n × (length bs ≤ room))
  unfolding met_again limit_passed
  demand room bs n = (forth, back)
    where
      forth : within room s ≡ text bs n → Reads p bs n × (length bs ≤ room)
      forth e =
          let it = is-text room bs n s e in
          (record { steps = it.steps; notes = []; ended = tied.forth bs it.notes (count n it.steps) it.is; not_again = refl; not_passed = refl }, it.fits)

      back : Reads p bs n × (length bs ≤ room) → within room s ≡ text bs n
      back (r, h) = rw (tied.back bs (count n r.steps) r.steps (clean r)) (text-is room bs [] (count n r.steps) h)

  -- The plain reading ends in at most one text, whatever is noted along it.
  one-text : (n m : ℕ) (bs cs : List ℕ) (ns ms : List Note) (k l : Count) → p n ≡ tr bs done ns k → p m ≡ tr cs done ms l → bs ≡ cs
  one-text n m bs cs ns ms k l e f =
      let same = tied.single n m (subst Finished (sym e) tt) (subst Finished (sym f) tt) in
      let all : tr bs done ns k ≡ tr cs done ms l = sym e ∙ same ∙ f in
      cc

  -- Where it never ends there is no text, however long the buffer.
  no_text : ((n : ℕ) → ¬ (Finished (p n))) → (room : ℕ) (bs : List ℕ) (n : ℕ) → ¬ (within room s ≡ text bs n)
  no_text never room bs n e =
      let r = ((demand room bs n).0 e).0 in
      never r.steps (subst Finished (sym r.ended) tt)

demands : {reading : (Settings → Table → Task → Trace Refusal) → Trace Refusal} → Tied (reading strictly) (λ n. reading (plain_to n)) → Demand reading
demands tied = record { finished = tied.ends; exactly = demand tied; one = one-text tied; never = no_text tied }

-- Demand 3 of the three text calls, for every pair of streams, index, name, flags, pointer size and buffer.
module _ (flags size : ℕ) (types : List ℕ) where
  pub function-demand : (name : List ℕ) (index : ℕ) → FunctionDemand flags size types name index
  unfolding function_reading
  function-demand name index = demands (tied-types flags size types (function_of index name))

  pub id-demand : (ids : List ℕ) (index : ℕ) → IdDemand flags size types ids index
  unfolding id_reading
  id-demand ids index = demands (tied-ids flags size types ids (id_of index))

  pub type-demand : (index : ℕ) → TypeDemand flags size types index
  unfolding type_reading
  type-demand index = demands (tied-types flags size types (by_itself index))

-- The walk of a size call always ends too.
pub size-ends : (size : ℕ) (types : List ℕ) (index : ℕ) → SizeFinished size types index
unfolding size_reading sized
size-ends size types index =
    (tied-pick (eqb size 4 || (eqb size 8 || eqb size 16))
    (tied-whole (checked Types types) (λ t. tied-walk (settings 0 size) (table_of types t [] none) (size_of index 0)))
    (tied-refusal (refusal₀.PointerSize size))).ends

-- Every answer is a text or a refusal of the table, and each refusal has a number of it.
pub numbered : (f : Refusal) → (1 ≤ number_of f) × (number_of f ≤ 17)
numbered (refusal₀.UnknownFlags flags) = omega arith
numbered (refusal₀.PointerSize size) = omega arith
numbered (refusal₀.Header stream) = omega arith
numbered (refusal₀.Tiling stream) = omega arith
numbered (refusal₀.Malformed index) = omega arith
numbered (refusal₀.CrossModule index) = omega arith
numbered (refusal₀.UnlistedKind kind) = omega arith
numbered (refusal₀.Missing index) = omega arith
numbered (refusal₀.ArgumentTypeNotArgumentList index) = omega arith
numbered (refusal₀.FunctionIdIsNotProcedureType index) = omega arith
numbered (refusal₀.MemberFunctionIdIsNotMemberFunctionType index) = omega arith
numbered (refusal₀.CircularTypeDefinition index) = omega arith
numbered (refusal₀.TooManyOpen index) = omega arith
numbered (refusal₀.ChainTooLong index) = omega arith
numbered refusal₀.NoRoom = omega arith
numbered (refusal₀.UnknownCommand command) = omega arith
numbered (refusal₀.WrongPlace entry) = omega arith

pub answered : (room : ℕ) (s : Trace Refusal) → ((bs : List ℕ) × (n : ℕ) × (within room s ≡ text bs n)) ⊎ ((f : Refusal) × (within room s ≡ stopped f))
answered room s = go (within room s) refl
  where
    go : (o : Outcome) → within room s ≡ o → ((bs : List ℕ) × (n : ℕ) × (within room s ≡ text bs n)) ⊎ ((f : Refusal) × (within room s ≡ stopped f))
    go (text bs n) e = inl (bs, n, e)
    go (stopped f) e = inr (f, e)
