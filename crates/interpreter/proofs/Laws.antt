-- The laws of programs, whatever the rules are: the two modes agree until something is noted, a finished reading stays, and the strict walk ends.
-- Assumes nothing.
use Prim.Native.Nat.{ℕ, zero, suc, ◌+◌, ◌≤◌, ◌<◌}
use mathlib.Core.Path.{◌≡◌, refl, ap, ap₂, sym, ◌∙◌, fun_ext, subst}
use mathlib.Core.Logic.{◌↔◌}
use mathlib.Core.Bool.{Bool, true, false, not}
use mathlib.Core.List.{List, [], ◌∷◌}
use lib.Dec.{T, leb, nleb→lt}
use lib.ListN.{length}
use native.Mathlib.Omega.{arith}
use Rattle.interpreter.specs.Trace.{Note, again, deep, long, End, done, missing, refused, halted, unfinished, Count, count, Trace, tr, Mode, strict, plain, Prog, write, miss, refuse, limit, call, seq, after, ask, catch, prefix, limited, then, asked, caught, Finished, exec, Key, Held, held, Entry, through, opens, afresh, is_open, opening, run, need, walk}

module _ {R : Type 0} where
  -- (i) Simulation. The strict trace beside the plain one: the same and nothing noted, or stopped at a mark and something noted.
  pub data Stopped : Trace R → Type 0 where
    at : {x : Note} {bs : List ℕ} {ns : List Note} {c : Count} → Stopped (tr bs (halted x) ns c)

  pub data Noted : Trace R → Type 0 where
    noted : {bs : List ℕ} {e : End R} {x : Note} {ns : List Note} {c : Count} → Noted (tr bs e (x ∷ ns) c)

  pub data Sim : Trace R → Trace R → Type 0 where
    both : {bs : List ℕ} {e : End R} {c : Count} → Sim (tr bs e [] c) (tr bs e [] c)
    stop : {s t : Trace R} → Stopped s → Noted t → Sim s t

  noted-before : (bs : List ℕ) (x : Note) (ns : List Note) (c : Count) (t : Trace R) → Noted (prefix bs (x ∷ ns) c t)
  noted-before bs x ns c (tr cs e ms d) = noted

  noted-then : {t : Trace R} (k : List ℕ → Trace R) → Noted t → Noted (then t k)
  noted-then k (noted {bs = bs} {e = done} {x = x} {ns = ns} {c = c}) = noted-before bs x ns c (k bs)
  noted-then k (noted {e = missing i}) = noted
  noted-then k (noted {e = refused f}) = noted
  noted-then k (noted {e = halted x}) = noted
  noted-then k (noted {e = unfinished}) = noted

  noted-asked : {t : Trace R} (k : List ℕ → Trace R) → Noted t → Noted (asked t k)
  noted-asked k (noted {bs = bs} {e = done} {x = x} {ns = ns} {c = c}) = noted-before [] x ns c (k bs)
  noted-asked k (noted {e = missing i}) = noted
  noted-asked k (noted {e = refused f}) = noted
  noted-asked k (noted {e = halted x}) = noted
  noted-asked k (noted {e = unfinished}) = noted

  noted-caught : {t : Trace R} (u : ℕ → Trace R) → Noted t → Noted (caught t u)
  noted-caught u (noted {e = done}) = noted
  noted-caught u (noted {bs = bs} {e = missing i} {x = x} {ns = ns} {c = c}) = noted-before bs x ns c (u i)
  noted-caught u (noted {e = refused f}) = noted
  noted-caught u (noted {e = halted x}) = noted
  noted-caught u (noted {e = unfinished}) = noted

  stopped-then : {s : Trace R} (k : List ℕ → Trace R) → Stopped s → Stopped (then s k)
  stopped-then k at = at

  stopped-asked : {s : Trace R} (k : List ℕ → Trace R) → Stopped s → Stopped (asked s k)
  stopped-asked k at = at

  stopped-caught : {s : Trace R} (u : ℕ → Trace R) → Stopped s → Stopped (caught s u)
  stopped-caught u at = at

  stopped-prefix : (bs : List ℕ) (c : Count) {s : Trace R} → Stopped s → Stopped (prefix bs [] c s)
  stopped-prefix bs c at = at

  noted-prefix : (bs : List ℕ) (c : Count) {t : Trace R} → Noted t → Noted (prefix bs [] c t)
  noted-prefix bs c noted = noted

  sim-prefix : (bs : List ℕ) (c : Count) {s t : Trace R} → Sim s t → Sim (prefix bs [] c s) (prefix bs [] c t)
  sim-prefix bs c both = both
  sim-prefix bs c (stop h g) = stop (stopped-prefix bs c h) (noted-prefix bs c g)

  pub sim_then : {s t : Trace R} → Sim s t → {k l : List ℕ → Trace R} → ((bs : List ℕ) → Sim (k bs) (l bs)) → Sim (then s k) (then t l)
  sim_then (both {bs = bs} {e = done} {c = c}) h = sim-prefix bs c (h bs)
  sim_then (both {e = missing i}) h = both
  sim_then (both {e = refused f}) h = both
  sim_then (both {e = halted x}) h = both
  sim_then (both {e = unfinished}) h = both
  sim_then (stop g h) k = stop (stopped-then _ g) (noted-then _ h)

  sim-asked : {s t : Trace R} → Sim s t → {k l : List ℕ → Trace R} → ((bs : List ℕ) → Sim (k bs) (l bs)) → Sim (asked s k) (asked t l)
  sim-asked (both {bs = bs} {e = done} {c = c}) h = sim-prefix [] c (h bs)
  sim-asked (both {e = missing i}) h = both
  sim-asked (both {e = refused f}) h = both
  sim-asked (both {e = halted x}) h = both
  sim-asked (both {e = unfinished}) h = both
  sim-asked (stop g h) k = stop (stopped-asked _ g) (noted-asked _ h)

  pub sim-caught : {s t : Trace R} → Sim s t → {u v : ℕ → Trace R} → ((i : ℕ) → Sim (u i) (v i)) → Sim (caught s u) (caught t v)
  sim-caught (both {e = done}) h = both
  sim-caught (both {bs = bs} {e = missing i} {c = c}) h = sim-prefix bs c (h i)
  sim-caught (both {e = refused f}) h = both
  sim-caught (both {e = halted x}) h = both
  sim-caught (both {e = unfinished}) h = both
  sim-caught (stop g h) k = stop (stopped-caught _ g) (noted-caught _ h)

  pub sim-limited : (b : Bool) (x : Note) {s t : Trace R} → Sim s t → Sim (limited strict b x s) (limited plain b x t)
  sim-limited false x h = h
  sim-limited true x {t = t} h = stop at (noted-before [] x [] (count 0 0) t)

  module _ {Task : Type 0} where
    pub sim-exec : {r q : Task → Trace R} → ((t : Task) → Sim (r t) (q t)) → (p : Prog R Task) → Sim (exec strict r p) (exec plain q p)
    unfolding exec
    sim-exec h (write bs) = both
    sim-exec h (miss i) = both
    sim-exec h (refuse f) = both
    sim-exec h (limit b x p) = sim-limited b (long x) (sim-exec h p)
    sim-exec h (call t) = h t
    sim-exec h (seq p q) = sim_then (sim-exec h p) (λ bs. sim-exec h q)
    sim-exec h (after p f) = sim_then (sim-exec h p) (λ bs. both)
    sim-exec h (ask p k) = sim-asked (sim-exec h p) (λ bs. sim-exec h (k bs))
    sim-exec h (catch p k) = sim-caught (sim-exec h p) (λ i. sim-exec h (k i))

  module _ (same : Key → Key → Bool) where
    pub sim-opening : (k : Entry) (o : Held) {f g : Held → Trace R} → ((q : Held) → Sim (f q) (g q)) → Sim (opening same strict k o f) (opening same plain k o g)
    unfolding opening
    sim-opening through o h = h o
    sim-opening (opens k) o h = sim-limited (is_open same k o.opened) (again k.index) (sim-limited (leb 96 (length o.opened)) (deep k.index) (sim-prefix [] (count 1 0) (h (held o.chain (k ∷ o.opened)))))
    sim-opening (afresh i) o h = sim-limited (leb 32 o.chain) (long i) (h (held (suc o.chain) []))

    pub sim : {Task : Type 0} (entry_of : Task → Entry) (body : Task → Prog R Task) (n : ℕ) (o : Held) (t : Task) → Sim (run same entry_of body strict n o t) (run same entry_of body plain n o t)
    unfolding run
    sim entry_of body zero o t = both
    sim entry_of body (suc n) o t =
        sim-prefix [] (count 0 1) (sim-opening (entry_of t) o (λ q. sim-exec (λ u. sim entry_of body n q u) (body t)))

  -- where nothing is noted the strict trace is the plain one
  pub clean : {s t : Trace R} → Sim s t → (bs : List ℕ) (e : End R) (c : Count) → t ≡ tr bs e [] c → s ≡ tr bs e [] c
  clean both bs e c p = p
  clean (stop h noted) bs e c p = absurd (let z : ◌≡◌ {A = ℕ} 0 1 = cc in omega arith)

  -- a strict trace that is not stopped at a mark is the plain one, and nothing is noted
  pub unstopped : {s t : Trace R} → Sim s t → ¬ (Stopped s) → (bs : List ℕ) (e : End R) (ns : List Note) (c : Count) → s ≡ tr bs e ns c → t ≡ tr bs e [] c
  unstopped both h bs e ns c p = cc
  unstopped (stop g _) h bs e ns c p = absurd (h g)

  -- and it notes nothing itself
  pub unnoted : {s t : Trace R} → Sim s t → (bs : List ℕ) (e : End R) (ns : List Note) (c : Count) → s ≡ tr bs e ns c → ¬ (Stopped (tr bs e ns c)) → s ≡ tr bs e [] c
  unnoted both bs e ns c p h = cc
  unnoted (stop g _) bs e ns c p h = absurd (h (subst Stopped p g))

  -- (ii) More fuel. A finished trace stays; an unfinished one may become anything.
  pub data Grows : Trace R → Trace R → Type 0 where
    stays : {t : Trace R} → Grows t t
    more : {bs : List ℕ} {ns : List Note} {c : Count} {t : Trace R} → Grows (tr bs unfinished ns c) t

  grows-prefix : (bs : List ℕ) (ns : List Note) (c : Count) {s t : Trace R} → Grows s t → Grows (prefix bs ns c s) (prefix bs ns c t)
  grows-prefix bs ns c stays = stays
  grows-prefix bs ns c more = more

  grows_then : {s t : Trace R} → Grows s t → {k l : List ℕ → Trace R} → ((bs : List ℕ) → Grows (k bs) (l bs)) → Grows (then s k) (then t l)
  grows_then (stays {t = tr bs done ns c}) h = grows-prefix bs ns c (h bs)
  grows_then (stays {t = tr bs (missing i) ns c}) h = stays
  grows_then (stays {t = tr bs (refused f) ns c}) h = stays
  grows_then (stays {t = tr bs (halted x) ns c}) h = stays
  grows_then (stays {t = tr bs unfinished ns c}) h = stays
  grows_then more h = more

  grows-asked : {s t : Trace R} → Grows s t → {k l : List ℕ → Trace R} → ((bs : List ℕ) → Grows (k bs) (l bs)) → Grows (asked s k) (asked t l)
  grows-asked (stays {t = tr bs done ns c}) h = grows-prefix [] ns c (h bs)
  grows-asked (stays {t = tr bs (missing i) ns c}) h = stays
  grows-asked (stays {t = tr bs (refused f) ns c}) h = stays
  grows-asked (stays {t = tr bs (halted x) ns c}) h = stays
  grows-asked (stays {t = tr bs unfinished ns c}) h = stays
  grows-asked more h = more

  grows-caught : {s t : Trace R} → Grows s t → {u v : ℕ → Trace R} → ((i : ℕ) → Grows (u i) (v i)) → Grows (caught s u) (caught t v)
  grows-caught (stays {t = tr bs done ns c}) h = stays
  grows-caught (stays {t = tr bs (missing i) ns c}) h = grows-prefix bs ns c (h i)
  grows-caught (stays {t = tr bs (refused f) ns c}) h = stays
  grows-caught (stays {t = tr bs (halted x) ns c}) h = stays
  grows-caught (stays {t = tr bs unfinished ns c}) h = stays
  grows-caught more h = more

  grows-limited : (m : Mode) (b : Bool) (x : Note) {s t : Trace R} → Grows s t → Grows (limited m b x s) (limited m b x t)
  grows-limited m false x h = h
  grows-limited strict true x h = stays
  grows-limited plain true x h = grows-prefix [] (x ∷ []) (count 0 0) h

  module _ {Task : Type 0} where
    pub grows-exec : (m : Mode) {r q : Task → Trace R} → ((t : Task) → Grows (r t) (q t)) → (p : Prog R Task) → Grows (exec m r p) (exec m q p)
    unfolding exec
    grows-exec m h (write bs) = stays
    grows-exec m h (miss i) = stays
    grows-exec m h (refuse f) = stays
    grows-exec m h (limit b x p) = grows-limited m b (long x) (grows-exec m h p)
    grows-exec m h (call t) = h t
    grows-exec m h (seq p q) = grows_then (grows-exec m h p) (λ bs. grows-exec m h q)
    grows-exec m h (after p f) = grows_then (grows-exec m h p) (λ bs. stays)
    grows-exec m h (ask p k) = grows-asked (grows-exec m h p) (λ bs. grows-exec m h (k bs))
    grows-exec m h (catch p k) = grows-caught (grows-exec m h p) (λ i. grows-exec m h (k i))

  module _ (same : Key → Key → Bool) where
    grows-opening : (m : Mode) (k : Entry) (o : Held) {f g : Held → Trace R} → ((q : Held) → Grows (f q) (g q)) → Grows (opening same m k o f) (opening same m k o g)
    unfolding opening
    grows-opening m through o h = h o
    grows-opening m (opens k) o h = grows-limited m (is_open same k o.opened) (again k.index) (grows-limited m (leb 96 (length o.opened)) (deep k.index) (grows-prefix [] [] (count 1 0) (h (held o.chain (k ∷ o.opened)))))
    grows-opening m (afresh i) o h = grows-limited m (leb 32 o.chain) (long i) (h (held (suc o.chain) []))

    pub grows : {Task : Type 0} (entry_of : Task → Entry) (body : Task → Prog R Task) (m : Mode) {n j : ℕ} → n ≤ j → (o : Held) (t : Task) → Grows (run same entry_of body m n o t) (run same entry_of body m j o t)
    unfolding run
    grows entry_of body m {n = zero} h o t = more
    grows entry_of body m {n = suc n} {j = zero} h o t = absurd (omega arith)
    grows entry_of body m {n = suc n} {j = suc j} h o t =
        grows-prefix [] [] (count 0 1)
        (grows-opening m (entry_of t) o (λ q. grows-exec m (λ u. grows entry_of body m {n = n} {j = j} (omega arith) q u) (body t)))

  grown : {s t : Trace R} → Grows s t → Finished s → t ≡ s
  grown stays f = refl
  grown more f = absurd f

  pub meet : {s t u : Trace R} → Grows s u → Grows t u → Finished s → Finished t → s ≡ t
  meet g h f e = sym (grown g f) ∙ grown h e

  module _ (same : Key → Key → Bool) where
    -- a reading has one end, whatever the fuel
    module _ {Task : Type 0} (entry_of : Task → Entry) (body : Task → Prog R Task) (m : Mode) (n j : ℕ) (o : Held) where
      pub one_end : (t : Task) → Finished (run same entry_of body m n o t) → Finished (run same entry_of body m j o t) → run same entry_of body m n o t ≡ run same entry_of body m j o t
      one_end t = meet (grows same entry_of body m {n = n} {j = n + j} (omega arith) o t) (grows same entry_of body m {n = j} {j = n + j} (omega arith) o t)

  -- (iii) A bound. Every call that the strict walk of a program can reach is of a task of which P holds.
  pub finished-prefix : (bs : List ℕ) (ns : List Note) (c : Count) (t : Trace R) → Finished t → Finished (prefix bs ns c t)
  finished-prefix bs ns c (tr cs done ms d) h = tt
  finished-prefix bs ns c (tr cs (missing i) ms d) h = tt
  finished-prefix bs ns c (tr cs (refused f) ms d) h = tt
  finished-prefix bs ns c (tr cs (halted x) ms d) h = tt
  finished-prefix bs ns c (tr cs unfinished ms d) h = h

  pub finished-then : (t : Trace R) (k : List ℕ → Trace R) → Finished t → ((bs : List ℕ) → Finished (k bs)) → Finished (then t k)
  finished-then (tr cs done ms c) k h g = finished-prefix cs ms c (k cs) (g cs)
  finished-then (tr cs (missing i) ms c) k h g = tt
  finished-then (tr cs (refused f) ms c) k h g = tt
  finished-then (tr cs (halted x) ms c) k h g = tt
  finished-then (tr cs unfinished ms c) k h g = h

  finished-asked : (t : Trace R) (k : List ℕ → Trace R) → Finished t → ((bs : List ℕ) → Finished (k bs)) → Finished (asked t k)
  finished-asked (tr cs done ms c) k h g = finished-prefix [] ms c (k cs) (g cs)
  finished-asked (tr cs (missing i) ms c) k h g = tt
  finished-asked (tr cs (refused f) ms c) k h g = tt
  finished-asked (tr cs (halted x) ms c) k h g = tt
  finished-asked (tr cs unfinished ms c) k h g = h

  pub finished-caught : (t : Trace R) (u : ℕ → Trace R) → Finished t → ((i : ℕ) → Finished (u i)) → Finished (caught t u)
  finished-caught (tr cs done ms c) u h g = tt
  finished-caught (tr cs (missing i) ms c) u h g = finished-prefix cs ms c (u i) (g i)
  finished-caught (tr cs (refused f) ms c) u h g = tt
  finished-caught (tr cs (halted x) ms c) u h g = tt
  finished-caught (tr cs unfinished ms c) u h g = h

  finished-limited : (b : Bool) (x : Note) (t : Trace R) → (T (not b) → Finished t) → Finished (limited strict b x t)
  finished-limited false x t h = h tt
  finished-limited true x t h = tt

  agree-limited : (b : Bool) (x : Note) (s t : Trace R) → (T (not b) → s ≡ t) → limited strict b x s ≡ limited strict b x t
  agree-limited false x s t h = h tt
  agree-limited true x s t h = refl

  module _ {Task : Type 0} where
    unfoldable pub Calls : (Task → Type 0) → Prog R Task → Type 0
    Calls P (write bs) = Unit {0}
    Calls P (miss i) = Unit {0}
    Calls P (refuse f) = Unit {0}
    Calls P (limit b x p) = T (not b) → Calls P p
    Calls P (call t) = P t
    Calls P (seq p q) = Calls P p × Calls P q
    Calls P (after p f) = Calls P p
    Calls P (ask p k) = Calls P p × ((bs : List ℕ) → Calls P (k bs))
    Calls P (catch p k) = Calls P p × ((i : ℕ) → Calls P (k i))

    pub calls-map : {P Q : Task → Type 0} → ((t : Task) → P t → Q t) → (p : Prog R Task) → Calls P p → Calls Q p
    unfolding Calls
    calls-map f (write bs) c = tt
    calls-map f (miss i) c = tt
    calls-map f (refuse e) c = tt
    calls-map f (limit b x p) c = λ h. calls-map f p (c h)
    calls-map f (call t) c = f t c
    calls-map f (seq p q) c = (calls-map f p c.0, calls-map f q c.1)
    calls-map f (after p g) c = calls-map f p c
    calls-map f (ask p k) c = (calls-map f p c.0, λ bs. calls-map f (k bs) (c.1 bs))
    calls-map f (catch p k) c = (calls-map f p c.0, λ i. calls-map f (k i) (c.1 i))

    finished-exec : (r : Task → Trace R) (p : Prog R Task) → Calls (λ t. Finished (r t)) p → Finished (exec strict r p)
    unfolding exec Calls
    finished-exec r (write bs) c = tt
    finished-exec r (miss i) c = tt
    finished-exec r (refuse f) c = tt
    finished-exec r (limit b x p) c = finished-limited b (long x) (exec strict r p) (λ h. finished-exec r p (c h))
    finished-exec r (call t) c = c
    finished-exec r (seq p q) c = finished-then (exec strict r p) (λ bs. exec strict r q) (finished-exec r p c.0) (λ bs. finished-exec r q c.1)
    finished-exec r (after p f) c = finished-then (exec strict r p) (λ bs. tr (f bs) done [] (count 0 0)) (finished-exec r p c) (λ bs. tt)
    finished-exec r (ask p k) c = finished-asked (exec strict r p) (λ bs. exec strict r (k bs)) (finished-exec r p c.0) (λ bs. finished-exec r (k bs) (c.1 bs))
    finished-exec r (catch p k) c = finished-caught (exec strict r p) (λ i. exec strict r (k i)) (finished-exec r p c.0) (λ i. finished-exec r (k i) (c.1 i))

    agree-exec : (r q : Task → Trace R) (p : Prog R Task) → Calls (λ t. r t ≡ q t) p → exec strict r p ≡ exec strict q p
    unfolding exec Calls
    agree-exec r q (write bs) c = refl
    agree-exec r q (miss i) c = refl
    agree-exec r q (refuse f) c = refl
    agree-exec r q (limit b x p) c = agree-limited b (long x) _ _ (λ h. agree-exec r q p (c h))
    agree-exec r q (call t) c = c
    agree-exec r q (seq p l) c = ap₂ then (agree-exec r q p c.0) (fun_ext (λ bs. agree-exec r q l c.1))
    agree-exec r q (after p f) c = ap (λ t. then t (λ bs. tr (f bs) done [] (count 0 0))) (agree-exec r q p c)
    agree-exec r q (ask p k) c = ap₂ asked (agree-exec r q p c.0) (fun_ext (λ bs. agree-exec r q (k bs) (c.1 bs)))
    agree-exec r q (catch p k) c = ap₂ caught (agree-exec r q p c.0) (fun_ext (λ i. agree-exec r q (k i) (c.1 i)))

    pub calls-all : {P : Task → Type 0} → ((t : Task) → P t) → (p : Prog R Task) → Calls P p
    unfolding Calls
    calls-all f (write bs) = tt
    calls-all f (miss i) = tt
    calls-all f (refuse e) = tt
    calls-all f (limit b x p) = λ h. calls-all f p
    calls-all f (call t) = f t
    calls-all f (seq p q) = (calls-all f p, calls-all f q)
    calls-all f (after p g) = calls-all f p
    calls-all f (ask p k) = (calls-all f p, λ bs. calls-all f (k bs))
    calls-all f (catch p k) = (calls-all f p, λ i. calls-all f (k i))

  -- What a bound rests on. Only the tasks that open nothing and have no fresh list are looked at: what they call has a lower rank.
  pub record Ranked {Task : Type 0} (entry_of : Task → Entry) (body : Task → Prog R Task) (rank : Task → ℕ) : Type 0 where
    pub low : (t : Task) → rank t < 256
    pub falls : (t : Task) → entry_of t ≡ through → Calls (λ u. rank u < rank t) (body t)

  module _ (same : Key → Key → Bool) where
    module _ {Task : Type 0} (entry_of : Task → Entry) (body : Task → Prog R Task) (rank : Task → ℕ) (ranks : Ranked entry_of body rank) where
      -- what the strict walk takes up from t has less need
      unfoldable pub Fewer : (Held → Task → Type 0) → Held → Task → Entry → Type 0
      Fewer P o t through = Calls (λ u. P o u) (body t)
      Fewer P o t (opens k) = length o.opened < 96 → Calls (λ u. P (held o.chain (k ∷ o.opened)) u) (body t)
      Fewer P o t (afresh i) = o.chain < 32 → Calls (λ u. P (held (suc o.chain) []) u) (body t)

      pub fewer : (o : Held) (t : Task) (k : Entry) → entry_of t ≡ k → Fewer (λ q u. need rank q u < need rank o t) o t k
      unfolding Fewer need
      fewer o t through e = calls-map (λ u h. omega arith) (body t) (ranks.falls t e)
      fewer o t (opens k) e = λ h. calls-all (λ u. omega (arith, ranks.low u)) (body t)
      fewer o t (afresh i) e = λ h. calls-all (λ u. omega (arith, ranks.low u)) (body t)

      ends-opening : (r : Held → Task → Trace R) (o : Held) (t : Task) (k : Entry) → Fewer (λ q u. Finished (r q u)) o t k
          → Finished (opening same strict k o (λ q. exec strict (λ u. r q u) (body t)))
      unfolding Fewer opening
      ends-opening r o t through c = finished-exec (λ u. r o u) (body t) c
      ends-opening r o t (opens k) c = finished-limited (is_open same k o.opened) _ _ (λ _. finished-limited (leb 96 (length o.opened)) _ _ (λ l. finished-prefix [] [] (count 1 0) (exec strict (λ u. r (held o.chain (k ∷ o.opened)) u) (body t)) (finished-exec (λ u. r (held o.chain (k ∷ o.opened)) u) (body t) (c (nleb→lt 96 (length o.opened) l)))))
      ends-opening r o t (afresh i) c = finished-limited (leb 32 o.chain) _ _ (λ l. finished-exec (λ u. r (held (suc o.chain) []) u) (body t) (c (nleb→lt 32 o.chain l)))

      fewer-map : {P Q : Held → Task → Type 0} → ((q : Held) (u : Task) → P q u → Q q u) → (o : Held) (t : Task) (k : Entry) → Fewer P o t k → Fewer Q o t k
      unfolding Fewer
      fewer-map f o t through c = calls-map (λ u h. f o u h) (body t) c
      fewer-map f o t (opens k) c = λ l. calls-map (λ u h. f (held o.chain (k ∷ o.opened)) u h) (body t) (c l)
      fewer-map f o t (afresh i) c = λ l. calls-map (λ u h. f (held (suc o.chain) []) u h) (body t) (c l)

      pub ends : (n : ℕ) (o : Held) (t : Task) → need rank o t < n → Finished (run same entry_of body strict n o t)
      unfolding run
      ends zero o t h = absurd (omega arith)
      ends (suc n) o t h =
          finished-prefix [] [] (count 0 1) (opening same strict (entry_of t) o (λ q. exec strict (λ u. run same entry_of body strict n q u) (body t)))
          (ends-opening (λ q u. run same entry_of body strict n q u) o t (entry_of t)
          (fewer-map (λ q u l. ends n q u (omega arith)) o t (entry_of t) (fewer o t (entry_of t) refl)))

      agree-opening : (r s : Held → Task → Trace R) (o : Held) (t : Task) (k : Entry) → Fewer (λ q u. r q u ≡ s q u) o t k
          → opening same strict k o (λ q. exec strict (λ u. r q u) (body t)) ≡ opening same strict k o (λ q. exec strict (λ u. s q u) (body t))
      unfolding Fewer opening
      agree-opening r s o t through c = agree-exec (λ u. r o u) (λ u. s o u) (body t) c
      agree-opening r s o t (opens k) c = agree-limited (is_open same k o.opened) _ _ _ (λ _. agree-limited (leb 96 (length o.opened)) _ _ _ (λ l. ap (λ t. prefix [] [] (count 1 0) t) (agree-exec (λ u. r (held o.chain (k ∷ o.opened)) u) (λ u. s (held o.chain (k ∷ o.opened)) u) (body t) (c (nleb→lt 96 (length o.opened) l)))))
      agree-opening r s o t (afresh i) c = agree-limited (leb 32 o.chain) _ _ _ (λ l. agree-exec (λ u. r (held (suc o.chain) []) u) (λ u. s (held (suc o.chain) []) u) (body t) (c (nleb→lt 32 o.chain l)))

      pub walk_is : (o : Held) (t : Task) → walk same entry_of body rank o t ≡ prefix [] [] (count 0 1) (opening same strict (entry_of t) o (λ q. exec strict (λ u. walk same entry_of body rank q u) (body t)))
      unfolding walk run
      walk_is o t = ap (λ (x : Trace R). prefix [] [] (count 0 1) x) (agree-opening (λ q u. run same entry_of body strict (need rank o t) q u) (walk same entry_of body rank) o t (entry_of t)
          (fewer-map (λ q u l. one_end same entry_of body strict (need rank o t) (suc (need rank q u)) q u (ends (need rank o t) q u l) (ends (suc (need rank q u)) q u (omega arith))) o t (entry_of t) (fewer o t (entry_of t) refl)))

      -- The walk and the plain reading. The walk ends so (a text, a refusal of the rules) exactly if the plain reading does after some number of steps, with nothing noted.
      pub exactly : (o : Held) (t : Task) (bs : List ℕ) (e : End R) (c : Count) → Finished (tr bs e [] c) → ¬ (Stopped (tr bs e [] c))
          → (walk same entry_of body rank o t ≡ tr bs e [] c) ↔ ((n : ℕ) × (run same entry_of body plain n o t ≡ tr bs e [] c))
      unfolding walk
      exactly o t bs e c f h = (forth, back)
        where
          forth : walk same entry_of body rank o t ≡ tr bs e [] c → (n : ℕ) × (run same entry_of body plain n o t ≡ tr bs e [] c)
          forth p = (suc (need rank o t), unstopped (sim same entry_of body (suc (need rank o t)) o t) (λ s. h (subst Stopped p s)) bs e [] c p)

          back : (n : ℕ) × (run same entry_of body plain n o t ≡ tr bs e [] c) → walk same entry_of body rank o t ≡ tr bs e [] c
          back r =
              let strictly = clean (sim same entry_of body r.0 o t) bs e c r.1 in
              one_end same entry_of body strict (suc (need rank o t)) r.0 o t (ends (suc (need rank o t)) o t (omega arith)) (subst Finished (sym strictly) f) ∙ strictly

      pub walk_ends : (o : Held) (t : Task) → Finished (walk same entry_of body rank o t)
      unfolding walk
      walk_ends o t = ends (suc (need rank o t)) o t (omega arith)

      -- a walk notes nothing
      pub walk-beside : (o : Held) (t : Task) → Sim (walk same entry_of body rank o t) (run same entry_of body plain (suc (need rank o t)) o t)
      unfolding walk
      walk-beside o t = sim same entry_of body (suc (need rank o t)) o t

      -- The ways in which a task is taken up, for the proofs of the code.
      taken-up : (o : Held) (t : Task) (k : Entry) → entry_of t ≡ k → walk same entry_of body rank o t ≡ prefix [] [] (count 0 1) (opening same strict k o (λ q. exec strict (λ u. walk same entry_of body rank q u) (body t)))
      taken-up o t k e = walk_is o t ∙ ap (λ (k : Entry). prefix [] [] (count 0 1) (opening same strict k o (λ q. exec strict (λ u. walk same entry_of body rank q u) (body t)))) e

      pub walk_through : (o : Held) (t : Task) → entry_of t ≡ through → prefix [] [] (count 0 1) (exec strict (λ u. walk same entry_of body rank o u) (body t)) ≡ walk same entry_of body rank o t
      unfolding opening
      walk_through o t e = sym (taken-up o t through e)

      module _ (o : Held) (t : Task) (k : Key) (e : entry_of t ≡ opens k) where
        pub walk-again : is_open same k o.opened ≡ true → tr [] (halted (again k.index)) [] (count 0 1) ≡ walk same entry_of body rank o t
        unfolding opening
        walk-again h = sym (taken-up o t (opens k) e ∙ rw h refl)

        pub walk-deep : is_open same k o.opened ≡ false → leb 96 (length o.opened) ≡ true → tr [] (halted (deep k.index)) [] (count 0 1) ≡ walk same entry_of body rank o t
        unfolding opening
        walk-deep h g = sym (taken-up o t (opens k) e ∙ rw (h, g) refl)

        pub walk-open : is_open same k o.opened ≡ false → leb 96 (length o.opened) ≡ false
            → prefix [] [] (count 0 1) (prefix [] [] (count 1 0) (exec strict (λ u. walk same entry_of body rank (held o.chain (k ∷ o.opened)) u) (body t))) ≡ walk same entry_of body rank o t
        unfolding opening
        walk-open h g = sym (taken-up o t (opens k) e ∙ rw (h, g) refl)

      module _ (o : Held) (t : Task) (i : ℕ) (e : entry_of t ≡ afresh i) where
        pub walk-long : leb 32 o.chain ≡ true → tr [] (halted (long i)) [] (count 0 1) ≡ walk same entry_of body rank o t
        unfolding opening
        walk-long h = sym (taken-up o t (afresh i) e ∙ rw h refl)

        pub walk-fresh : leb 32 o.chain ≡ false → prefix [] [] (count 0 1) (exec strict (λ u. walk same entry_of body rank (held (suc o.chain) []) u) (body t)) ≡ walk same entry_of body rank o t
        unfolding opening
        walk-fresh h = sym (taken-up o t (afresh i) e ∙ rw h refl)
