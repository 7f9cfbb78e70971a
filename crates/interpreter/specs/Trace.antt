-- What a reading comes to, the programs that rules are written as, and the one interpreter that runs them in two modes (document 01, "Writing rules":
-- opening, the limits, and the plain reading). No rule stands here.
use Rattle.std.specs.Prelude.{ℕ, zero, suc, ◌+◌, ◌*◌, ◌-◌, Bool, true, false, ◌||◌, List, [], ◌∷◌, ◌++◌, leb, length}

-- What the strict walk stops at and the plain reading only notes, with the index: it was opened while open, it is a list's 97th open index, it is a
-- chain's 33rd record.
pub data Note : Type 0 where
  again deep long : ℕ → Note

-- How a reading ends: with all written, at a missing index, at a refusal of the rules, stopped where something is noted, or not yet.
pub data End (R : Type 0) : Type 0 where
  done : End R
  missing : ℕ → End R
  refused : R → End R
  halted : Note → End R
  unfinished : End R

-- How many indexes were opened, a repeat counted each time, and how many were taken up at all.
pub record Count : Type 0 where
  pub opened : ℕ
  pub taken : ℕ

abbrev pub count : ℕ → ℕ → Count
count opened taken = record { opened = opened; taken = taken }

abbrev pub plus : Count → Count → Count
plus a b = count (a.opened + b.opened) (a.taken + b.taken)

-- A trace: the bytes written, the end, what was noted, and the counts.
pub data Trace (R : Type 0) : Type 0 where
  tr : List ℕ → End R → List Note → Count → Trace R

-- The two modes: strict stops at a note, plain writes it down and goes on.
pub data Mode : Type 0 where
  strict plain : Mode

-- A rule is a program over the tasks that it may take up. It knows no mode, no bound and no list of what is open.
pub data Prog (R Task : Type 0) : Type 0 where
  -- write these bytes
  write : List ℕ → Prog R Task
  -- this index is missing: ends the text, up to the next `catch`
  miss : ℕ → Prog R Task
  refuse : R → Prog R Task
  -- where the test holds, this index is a chain's 33rd record; then the rest
  limit : Bool → ℕ → Prog R Task → Prog R Task
  -- take up a task
  call : Task → Prog R Task
  seq : Prog R Task → Prog R Task → Prog R Task
  -- a part, then what its text asks for
  after : Prog R Task → (List ℕ → List ℕ) → Prog R Task
  -- a part that is not written: its text is a value for the rest
  ask : Prog R Task → (List ℕ → Prog R Task) → Prog R Task
  -- a part, and what is done where an index was missing in it
  catch : Prog R Task → (ℕ → Prog R Task) → Prog R Task

module _ {R : Type 0} where
  -- Bytes, notes and counts that come before a trace.
  abbrev pub prefix : List ℕ → List Note → Count → Trace R → Trace R
  prefix bs ns c (tr cs e ms d) = tr (bs ++ cs) e (ns ++ ms) (plus c d)

  -- A note where a test holds: the strict walk stops there, the plain reading notes it.
  abbrev pub limited : Mode → Bool → Note → Trace R → Trace R
  limited m false x t = t
  limited strict true x t = tr [] (halted x) [] (count 0 0)
  limited plain true x t = prefix [] (x ∷ []) (count 0 0) t

  -- One trace, and where all was written the next, which may go by the bytes of the first.
  abbrev pub then : Trace R → (List ℕ → Trace R) → Trace R
  then (tr bs done ns c) f = prefix bs ns c (f bs)
  then (tr bs (missing i) ns c) f = tr bs (missing i) ns c
  then (tr bs (refused r) ns c) f = tr bs (refused r) ns c
  then (tr bs (halted x) ns c) f = tr bs (halted x) ns c
  then (tr bs unfinished ns c) f = tr bs unfinished ns c

  -- The same with the first trace's bytes not written.
  abbrev pub asked : Trace R → (List ℕ → Trace R) → Trace R
  asked (tr bs done ns c) f = prefix [] ns c (f bs)
  asked (tr bs (missing i) ns c) f = tr [] (missing i) ns c
  asked (tr bs (refused r) ns c) f = tr [] (refused r) ns c
  asked (tr bs (halted x) ns c) f = tr [] (halted x) ns c
  asked (tr bs unfinished ns c) f = tr [] unfinished ns c

  -- A trace, and where it ended at a missing index what follows from that.
  abbrev pub caught : Trace R → (ℕ → Trace R) → Trace R
  caught (tr bs done ns c) u = tr bs done ns c
  caught (tr bs (missing i) ns c) u = prefix bs ns c (u i)
  caught (tr bs (refused r) ns c) u = tr bs (refused r) ns c
  caught (tr bs (halted x) ns c) u = tr bs (halted x) ns c
  caught (tr bs unfinished ns c) u = tr bs unfinished ns c

  -- A trace that has ended, in whatever way.
  abbrev pub Finished : Trace R → Type 0
  Finished (tr bs done ns c) = Unit {0}
  Finished (tr bs (missing i) ns c) = Unit {0}
  Finished (tr bs (refused f) ns c) = Unit {0}
  Finished (tr bs (halted x) ns c) = Unit {0}
  Finished (tr bs unfinished ns c) = ⊥

  -- A program's trace, given each task's. (A `let` keeps what is not reached from being computed.)
  unfoldable pub exec : {Task : Type 0} → Mode → (Task → Trace R) → Prog R Task → Trace R
  exec m r (write bs) = tr bs done [] (count 0 0)
  exec m r (miss i) = tr [] (missing i) [] (count 0 0)
  exec m r (refuse f) = tr [] (refused f) [] (count 0 0)
  exec m r (limit b i p) = let t = exec m r p in limited m b (long i) t
  exec m r (call t) = r t
  exec m r (seq p q) = then (exec m r p) (λ bs. exec m r q)
  exec m r (after p f) = then (exec m r p) (λ bs. tr (f bs) done [] (count 0 0))
  exec m r (ask p k) = asked (exec m r p) (λ bs. exec m r (k bs))
  exec m r (catch p k) = caught (exec m r p) (λ i. exec m r (k i))

-- An open index, with the way it came, a number that the rules give.
pub record Key : Type 0 where
  pub way : ℕ
  pub index : ℕ

abbrev pub key : ℕ → ℕ → Key
key way index = record { way = way; index = index }

-- What is held while a task is read: how many records of the chain of fresh lists there are so far, and the list of what is open.
pub record Held : Type 0 where
  pub chain : ℕ
  pub opened : List Key

abbrev pub held : ℕ → List Key → Held
held chain opened = record { chain = chain; opened = opened }

-- How a task is taken up: as it is; with a key opened for as long as its reading lasts; or in a fresh list, one record more of a chain.
pub data Entry : Type 0 where
  through : Entry
  opens : Key → Entry
  afresh : ℕ → Entry

-- A key is open where one that counts as the same is in the list.
unfoldable pub is_open : (Key → Key → Bool) → Key → List Key → Bool
is_open same k [] = false
is_open same k (j ∷ o) = same j k || is_open same k o

module _ {R : Type 0} (same : Key → Key → Bool) where
  -- Taking up: "12 is tested before 13"; at most 96 are open, a chain has at most 32 records.
  unfoldable pub opening : Mode → Entry → Held → (Held → Trace R) → Trace R
  opening m through h f = f h
  opening m (opens k) h f =
      let t = prefix [] [] (count 1 0) (f (held h.chain (k ∷ h.opened))) in
      let u = limited m (leb 96 (length h.opened)) (deep k.index) t in
      limited m (is_open same k h.opened) (again k.index) u
  opening m (afresh i) h f = let t = f (held (suc h.chain) []) in limited m (leb 32 h.chain) (long i) t

  -- The reading of a task where h is held, tasks taken up at most n deep.
  unfoldable pub run : {Task : Type 0} → (Task → Entry) → (Task → Prog R Task) → Mode → ℕ → Held → Task → Trace R
  run entry_of body m zero h t = tr [] unfinished [] (count 0 0)
  run entry_of body m (suc n) h t =
      prefix [] [] (count 0 1) (opening m (entry_of t) h (λ q. exec m (λ u. run entry_of body m n q u) (body t)))

-- How deep the strict walk can go: 32 fresh lists, in each 96 openings, and between two of them as many tasks that open nothing as the rank says.
unfoldable pub need : {Task : Type 0} → (Task → ℕ) → Held → Task → ℕ
need rank h t = (32 - h.chain) * 24832 + (96 - length h.opened) * 256 + rank t

-- The strict walk: as deep as it can go.
unfoldable pub walk : {R Task : Type 0} → (Key → Key → Bool) → (Task → Entry) → (Task → Prog R Task) → (Task → ℕ) → Held → Task → Trace R
walk same entry_of body rank h t = run same entry_of body strict (suc (need rank h t)) h t
