-- What is written. A property of texts that holds of no bytes and of two texts one after another holds of all that a reading writes, in either mode and at any
-- depth, where it holds of what its programs write. Assumes nothing.
use Prim.Native.Nat.{ℕ, zero, suc}
use mathlib.Core.Bool.{Bool, true, false}
use mathlib.Core.List.{List, [], ◌∷◌, ◌++◌}
use lib.Dec.{leb}
use lib.ListN.{length}
use Rattle.interpreter.specs.Trace.{
  Note,
  again,
  deep,
  long,
  done,
  missing,
  refused,
  halted,
  unfinished,
  Count,
  count,
  Trace,
  tr,
  Mode,
  strict,
  plain,
  Prog,
  write,
  miss,
  refuse,
  limit,
  call,
  seq,
  after,
  ask,
  catch,
  prefix,
  limited,
  then,
  asked,
  caught,
  exec,
  Key,
  Held,
  held,
  Entry,
  through,
  opens,
  afresh,
  is_open,
  opening,
  run,
}

module _ {R Task : Type 0} (P : List ℕ → Type 0) (Q : Task → Type 0) where
  -- What a program writes has the property P, and the tasks that it takes up Q. What is asked for is not written.
  unfoldable pub Says : Prog R Task → Type 0
  Says (write bs) = P bs
  Says (miss i) = Unit {0}
  Says (refuse f) = Unit {0}
  Says (limit b i p) = Says p
  Says (call t) = Q t
  Says (seq p q) = Says p × Says q
  Says (after p f) = Says p × ((bs : List ℕ) → P (f bs))
  Says (ask p k) = (bs : List ℕ) → Says (k bs)
  Says (catch p k) = Says p × ((i : ℕ) → Says (k i))

  abbrev pub Holds : Trace R → Type 0
  Holds (tr bs e ns c) = P bs

  module _ (none : P []) (joined : (a b : List ℕ) → P a → P b → P (a ++ b)) where
    holds-prefix : (bs : List ℕ) (ns : List Note) (c : Count) (t : Trace R) → P bs → Holds t → Holds (prefix bs ns c t)
    holds-prefix bs ns c (tr cs e ms d) h k = joined bs cs h k

    holds_then : (t : Trace R) (f : List ℕ → Trace R) → Holds t → ((bs : List ℕ) → Holds (f bs)) → Holds (then t f)
    holds_then (tr bs done ns c) f h k = holds-prefix bs ns c (f bs) h (k bs)
    holds_then (tr bs (missing i) ns c) f h k = h
    holds_then (tr bs (refused r) ns c) f h k = h
    holds_then (tr bs (halted x) ns c) f h k = h
    holds_then (tr bs unfinished ns c) f h k = h

    holds_asked : (t : Trace R) (f : List ℕ → Trace R) → ((bs : List ℕ) → Holds (f bs)) → Holds (asked t f)
    holds_asked (tr bs done ns c) f k = holds-prefix [] ns c (f bs) none (k bs)
    holds_asked (tr bs (missing i) ns c) f k = none
    holds_asked (tr bs (refused r) ns c) f k = none
    holds_asked (tr bs (halted x) ns c) f k = none
    holds_asked (tr bs unfinished ns c) f k = none

    holds-caught : (t : Trace R) (u : ℕ → Trace R) → Holds t → ((i : ℕ) → Holds (u i)) → Holds (caught t u)
    holds-caught (tr bs done ns c) u h k = h
    holds-caught (tr bs (missing i) ns c) u h k = holds-prefix bs ns c (u i) h (k i)
    holds-caught (tr bs (refused r) ns c) u h k = h
    holds-caught (tr bs (halted x) ns c) u h k = h
    holds-caught (tr bs unfinished ns c) u h k = h

    holds-limited : (m : Mode) (b : Bool) (x : Note) (t : Trace R) → Holds t → Holds (limited m b x t)
    holds-limited m false x t h = h
    holds-limited strict true x t h = none
    holds-limited plain true x t h = holds-prefix [] (x ∷ []) (count 0 0) t none h

    says-exec : (m : Mode) (r : Task → Trace R) → ((t : Task) → Q t → Holds (r t)) → (p : Prog R Task) → Says p → Holds (exec m r p)
    unfolding exec Says
    says-exec m r f (write bs) h = h
    says-exec m r f (miss i) h = none
    says-exec m r f (refuse e) h = none
    says-exec m r f (limit b i p) h = holds-limited m b (long i) (exec m r p) (says-exec m r f p h)
    says-exec m r f (call t) h = f t h
    says-exec m r f (seq p q) h = holds_then (exec m r p) (λ bs. exec m r q) (says-exec m r f p h.0) (λ bs. says-exec m r f q h.1)
    says-exec m r f (after p g) h = holds_then (exec m r p) (λ bs. tr (g bs) done [] (count 0 0)) (says-exec m r f p h.0) h.1
    says-exec m r f (ask p k) h = holds_asked (exec m r p) (λ bs. exec m r (k bs)) (λ bs. says-exec m r f (k bs) (h bs))
    says-exec m r f (catch p k) h = holds-caught (exec m r p) (λ i. exec m r (k i)) (says-exec m r f p h.0) (λ i. says-exec m r f (k i) (h.1 i))

    module _ (same : Key → Key → Bool) where
      holds-opening : (m : Mode) (e : Entry) (h : Held) (f : Held → Trace R) → ((q : Held) → Holds (f q)) → Holds (opening same m e h f)
      unfolding opening
      holds-opening m through h f k = k h
      holds-opening m (opens j) h f k =
          holds-limited m (is_open same j h.opened) (again j.index) _
          (holds-limited m (leb 96 (length h.opened)) (deep j.index) _ (holds-prefix [] [] (count 1 0) (f (held h.chain (j ∷ h.opened))) none (k (held h.chain (j ∷ h.opened)))))
      holds-opening m (afresh i) h f k = holds-limited m (leb 32 h.chain) (long i) _ (k (held (suc h.chain) []))

      module _ (entry_of : Task → Entry) (body : Task → Prog R Task) (says : (t : Task) → Q t → Says (body t)) where
        pub written : (m : Mode) (n : ℕ) (h : Held) (t : Task) → Q t → Holds (run same entry_of body m n h t)
        unfolding run
        written m zero h t k = none
        written m (suc n) h t k =
            holds-prefix [] [] (count 0 1) (opening same m (entry_of t) h (λ q. exec m (λ u. run same entry_of body m n q u) (body t))) none
            (holds-opening m (entry_of t) h (λ q. exec m (λ u. run same entry_of body m n q u) (body t)) (λ q. says-exec m (λ u. run same entry_of body m n q u) (λ u l. written m n q u l) (body t) (says t k)))
