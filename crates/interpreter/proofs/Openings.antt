-- What the strict walk opens is bounded by what it writes: where a byte stands between any two tasks of a program that may open something, there are at most
-- 3,200 openings to a byte, and as many again. Assumes nothing.
use Prim.Native.Nat.{ℕ, zero, suc, ◌+◌, ◌*◌, ◌-◌, ◌≤◌}
use mathlib.Core.Path.{◌≡◌, refl}
use mathlib.Core.Bool.{Bool, true, false, not}
use mathlib.Core.List.{List, [], ◌∷◌}
use lib.Dec.{T, eqb, leb, nleb→lt}
use lib.ListN.{length, length-append}
use native.Mathlib.Omega.{arith}
use Rattle.interpreter.specs.Trace.{
  Note,
  again,
  deep,
  long,
  End,
  done,
  missing,
  refused,
  halted,
  unfinished,
  Count,
  count,
  Trace,
  tr,
  strict,
  Prog,
  write,
  miss,
  refuse,
  limit,
  call,
  seq,
  after,
  ask,
  catch,
  prefix,
  limited,
  then,
  asked,
  caught,
  exec,
  Key,
  key,
  Held,
  held,
  Entry,
  through,
  opens,
  afresh,
  is_open,
  opening,
  run,
  walk,
}

-- How many openings are left where h is held: each lowers it, and so does each fresh list. At most 3,200.
unfoldable pub left : Held → ℕ
left h = (32 - h.chain) * 97 + (96 - length h.opened)

low : (h : Held) → left h ≤ 3_200
unfolding left
low h = omega arith

module _ {R : Type 0} where
  -- What is to spare after a trace: b where all was written, else nothing is asked.
  abbrev pub spare : ℕ → End R → ℕ
  spare b done = b
  spare b (missing i) = 0
  spare b (refused f) = 0
  spare b (halted x) = 0
  spare b unfinished = 0

  -- The openings of a trace are paid for by a that was to spare before it and 3,200 for each of its bytes, and b is to spare after it.
  abbrev pub Paid : ℕ → ℕ → Trace R → Type 0
  Paid a b (tr bs e ns c) = c.opened + spare b e ≤ a + 3_200 * length bs

  -- A trace that opens nothing.
  abbrev pub Quiet : Trace R → Type 0
  Quiet (tr bs e ns c) = c.opened ≡ 0

  paid-prefix : (a b : ℕ) (d : ℕ) (bs : List ℕ) (ns : List Note) (c : Count) (t : Trace R) → c.opened + b ≤ a + 3_200 * length bs → Paid b d t → Paid a d (prefix bs ns c t)
  paid-prefix a b d bs ns c (tr cs e ms k) h g = omega (arith, length-append bs cs)

  paid-then : (a b d : ℕ) (t : Trace R) (f : List ℕ → Trace R) → Paid a b t → ((bs : List ℕ) → Paid b d (f bs)) → Paid a d (then t f)
  paid-then a b d (tr bs done ns c) f h g = paid-prefix a b d bs ns c (f bs) h (g bs)
  paid-then a b d (tr bs (missing i) ns c) f h g = h
  paid-then a b d (tr bs (refused r) ns c) f h g = h
  paid-then a b d (tr bs (halted x) ns c) f h g = h
  paid-then a b d (tr bs unfinished ns c) f h g = h

  paid-asked : (a b : ℕ) (t : Trace R) (f : List ℕ → Trace R) → Quiet t → ((bs : List ℕ) → Paid a b (f bs)) → Paid a b (asked t f)
  paid-asked a b (tr bs done ns c) f h g = paid-prefix a a b [] ns c (f bs) (omega arith) (g bs)
  paid-asked a b (tr bs (missing i) ns c) f h g = omega arith
  paid-asked a b (tr bs (refused r) ns c) f h g = omega arith
  paid-asked a b (tr bs (halted x) ns c) f h g = omega arith
  paid-asked a b (tr bs unfinished ns c) f h g = omega arith

  paid-caught : (a b : ℕ) (t : Trace R) (u : ℕ → Trace R) → Paid a b t → ((i : ℕ) → Paid 0 b (u i)) → Paid a b (caught t u)
  paid-caught a b (tr bs done ns c) u h g = h
  paid-caught a b (tr bs (missing i) ns c) u h g = paid-prefix a 0 b bs ns c (u i) h (g i)
  paid-caught a b (tr bs (refused r) ns c) u h g = h
  paid-caught a b (tr bs (halted x) ns c) u h g = h
  paid-caught a b (tr bs unfinished ns c) u h g = h

  paid-limited : (a b : ℕ) (l : Bool) (x : Note) (t : Trace R) → (T (not l) → Paid a b t) → Paid a b (limited strict l x t)
  paid-limited a b false x t h = h tt
  paid-limited a b true x t h = omega arith

  paid-more : (k a b : ℕ) (t : Trace R) → b + k ≤ a → Paid k 0 t → Paid a b t
  paid-more k a b (tr bs done ns c) h g = omega arith
  paid-more k a b (tr bs (missing i) ns c) h g = omega arith
  paid-more k a b (tr bs (refused r) ns c) h g = omega arith
  paid-more k a b (tr bs (halted x) ns c) h g = omega arith
  paid-more k a b (tr bs unfinished ns c) h g = omega arith

  quiet-prefix : (bs : List ℕ) (ns : List Note) (n : ℕ) (t : Trace R) → Quiet t → Quiet (prefix bs ns (count 0 n) t)
  quiet-prefix bs ns n (tr cs e ms k) h = omega arith

  quiet-limited : (l : Bool) (x : Note) (t : Trace R) → Quiet t → Quiet (limited strict l x t)
  quiet-limited false x t h = h
  quiet-limited true x t h = refl

  module _ {Task : Type 0} (Silent : Task → Type 0) where
    -- A program that writes, or takes up a silent task.
    unfoldable pub Hushed : Prog R Task → Type 0
    Hushed (write bs) = Unit {0}
    Hushed (miss i) = Unit {0}
    Hushed (refuse f) = Unit {0}
    Hushed (limit b i p) = Hushed p
    Hushed (call t) = Silent t
    Hushed (seq p q) = ⊥
    Hushed (after p f) = ⊥
    Hushed (ask p k) = ⊥
    Hushed (catch p k) = ⊥

    hushed-exec : (r : Task → Trace R) → ((t : Task) → Silent t → Quiet (r t)) → (p : Prog R Task) → Hushed p → Quiet (exec strict r p)
    unfolding exec Hushed
    hushed-exec r f (write bs) h = refl
    hushed-exec r f (miss i) h = refl
    hushed-exec r f (refuse e) h = refl
    hushed-exec r f (limit b i p) h = quiet-limited b (long i) (exec strict r p) (hushed-exec r f p h)
    hushed-exec r f (call t) h = f t h
    hushed-exec r f (seq p q) h = absurd h
    hushed-exec r f (after p g) h = absurd h
    hushed-exec r f (ask p g) h = absurd h
    hushed-exec r f (catch p g) h = absurd h

    -- Where a is to spare before a program, b is after it: each task that it takes up may open k, each byte that it writes pays for 3,200. What is asked for is
    -- not written, so it has to be hushed; at a missing index nothing is to spare.
    unfoldable pub Pays : ℕ → ℕ → ℕ → Prog R Task → Type 0
    Pays k a b (write bs) = b ≤ a + 3_200 * length bs
    Pays k a b (miss i) = Unit {0}
    Pays k a b (refuse f) = Unit {0}
    Pays k a b (limit l i p) = Pays k a b p
    Pays k a b (call t) = b + k ≤ a
    Pays k a b (seq p q) = (d : ℕ) × (Pays k a d p × Pays k d b q)
    Pays k a b (after p f) = Pays k a b p
    Pays k a b (ask p f) = Hushed p × ((bs : List ℕ) → Pays k a b (f bs))
    Pays k a b (catch p f) = Pays k a b p × ((i : ℕ) → Pays k 0 b (f i))

    pub pays-hushed : (k : ℕ) (p : Prog R Task) → Hushed p → Pays k k 0 p
    unfolding Hushed Pays
    pays-hushed k (write bs) h = omega arith
    pays-hushed k (miss i) h = tt
    pays-hushed k (refuse f) h = tt
    pays-hushed k (limit l i p) h = pays-hushed k p h
    pays-hushed k (call t) h = omega arith
    pays-hushed k (seq p q) h = absurd h
    pays-hushed k (after p f) h = absurd h
    pays-hushed k (ask p f) h = absurd h
    pays-hushed k (catch p f) h = absurd h

    pays-exec : (k : ℕ) (r : Task → Trace R) → ((t : Task) → Paid k 0 (r t)) → ((t : Task) → Silent t → Quiet (r t)) → (a b : ℕ) (p : Prog R Task) → Pays k a b p → Paid a b (exec strict r p)
    unfolding exec Pays
    pays-exec k r f q a b (write bs) h = omega arith
    pays-exec k r f q a b (miss i) h = omega arith
    pays-exec k r f q a b (refuse e) h = omega arith
    pays-exec k r f q a b (limit l i p) h = paid-limited a b l (long i) (exec strict r p) (λ _. pays-exec k r f q a b p h)
    pays-exec k r f q a b (call t) h = paid-more k a b (r t) h (f t)
    pays-exec k r f q a b (seq p s) h =
        paid-then a h.0 b (exec strict r p) (λ bs. exec strict r s) (pays-exec k r f q a h.0 p h.1.0) (λ bs. pays-exec k r f q h.0 b s h.1.1)
    pays-exec k r f q a b (after p g) h = paid-then a b b (exec strict r p) (λ bs. tr (g bs) done [] (count 0 0)) (pays-exec k r f q a b p h) (λ bs. omega arith)
    pays-exec k r f q a b (ask p g) h = paid-asked a b (exec strict r p) (λ bs. exec strict r (g bs)) (hushed-exec r q p h.0) (λ bs. pays-exec k r f q a b (g bs) (h.1 bs))
    pays-exec k r f q a b (catch p g) h = paid-caught a b (exec strict r p) (λ i. exec strict r (g i)) (pays-exec k r f q a b p h.0) (λ i. pays-exec k r f q 0 b (g i) (h.1 i))

    -- What the bound rests on: a silent task opens nothing and is hushed; every task pays for what it takes up, whatever that may open.
    pub record Spaced (entry_of : Task → Entry) (body : Task → Prog R Task) : Type 0 where
      pub unopened : (t : Task) → Silent t → entry_of t ≡ through
      pub hushed : (t : Task) → Silent t → Hushed (body t)
      pub pays : (k : ℕ) → k ≤ 3_200 → (t : Task) → Pays k k 0 (body t)

    module _ (same : Key → Key → Bool) where
      paid-opening : (e : Entry) (h : Held) (f : Held → Trace R) → ((q : Held) → Paid (left q) 0 (f q)) → Paid (left h) 0 (opening same strict e h f)
      unfolding opening left
      paid-opening through h f g = g h
      paid-opening (opens j) h f g =
          paid-limited (left h) 0 (is_open same j h.opened) (again j.index) _
          (λ _. paid-limited (left h) 0 (leb 96 (length h.opened)) (deep j.index) _
          (λ l. paid-prefix (left h) (left (held h.chain (j ∷ h.opened))) 0 [] [] (count 1 0) (f (held h.chain (j ∷ h.opened))) (omega (arith, nleb→lt 96 (length h.opened) l)) (g (held h.chain (j ∷ h.opened)))))
      paid-opening (afresh i) h f g =
          paid-limited (left h) 0 (leb 32 h.chain) (long i) _
          (λ l. paid-more (left (held (suc h.chain) [])) (left h) 0 (f (held (suc h.chain) [])) (omega (arith, nleb→lt 32 h.chain l)) (g (held (suc h.chain) [])))

      quiet-opening : (e : Entry) (h : Held) (f : Held → Trace R) → e ≡ through → Quiet (f h) → Quiet (opening same strict e h f)
      unfolding opening
      quiet-opening through h f e g = g
      quiet-opening (opens j) h f e g = absurd (let z : ◌≡◌ {A = ℕ} 0 1 = cc in omega arith)
      quiet-opening (afresh i) h f e g = absurd (let z : ◌≡◌ {A = ℕ} 0 1 = cc in omega arith)

      module _ (entry_of : Task → Entry) (body : Task → Prog R Task) (spaced : Spaced entry_of body) where
        quiet-run : (n : ℕ) (h : Held) (t : Task) → Silent t → Quiet (run same entry_of body strict n h t)
        unfolding run
        quiet-run zero h t s = refl
        quiet-run (suc n) h t s =
            quiet-prefix [] [] 1 (opening same strict (entry_of t) h (λ q. exec strict (λ u. run same entry_of body strict n q u) (body t)))
            (quiet-opening (entry_of t) h (λ q. exec strict (λ u. run same entry_of body strict n q u) (body t)) (spaced.unopened t s)
            (hushed-exec (λ u. run same entry_of body strict n h u) (λ u v. quiet-run n h u v) (body t) (spaced.hushed t s)))

        paid-run : (n : ℕ) (h : Held) (t : Task) → Paid (left h) 0 (run same entry_of body strict n h t)
        unfolding run
        paid-run zero h t = omega arith
        paid-run (suc n) h t =
            paid-prefix (left h) (left h) 0 [] [] (count 0 1) (opening same strict (entry_of t) h (λ q. exec strict (λ u. run same entry_of body strict n q u) (body t))) (omega arith)
            (paid-opening (entry_of t) h (λ q. exec strict (λ u. run same entry_of body strict n q u) (body t))
            (λ q. pays-exec (left q) (λ u. run same entry_of body strict n q u) (λ u. paid-run n q u) (λ u v. quiet-run n q u v) (left q) 0 (body t) (spaced.pays (left q) (low q) t)))

        pub paid-walk : (rank : Task → ℕ) (h : Held) (t : Task) → Paid (left h) 0 (walk same entry_of body rank h t)
        unfolding walk
        paid-walk rank h t = paid-run _ h t

-- "A repeat counted each time" (document 02, Note 4): a task that takes up another twice, one after the other, opens three.
abbrev pub twice : ℕ → Prog ℕ ℕ
twice zero = seq (call 1) (call 1)
twice (suc n) = write []

pub repeat-counted : run (λ j k. eqb j.index k.index) (λ t. opens (key 0 t)) twice strict 2 (held 0 []) 0 ≡ tr [] done [] (count 3 3)
unfolding run opening exec is_open
repeat-counted = refl
